-- Arguments have only one meaning.
use Rattle.std.proofs.Common.{◌≡◌, ℕ, Bool, true, false, List, [], ◌∷◌, Option, Some, None, refl, sym, ap, subst, ◌∙◌, if◌then◌else◌}
use denote.Ref.{Bor}
use Rattle.std.proofs.NetLemmas.Theorems.{IsSocketText_unique}
use Rattle.std.specs.Prelude.{codes, option_copied}
use Rattle.std.specs.Str.{bytes_eq}
use Rattle.sv_arguments.proofs.Decoding.{one_settings, same_heads}
use Rattle.sv_arguments.specs.AuditOptions.{GiveAccess, IsViewer}
use Rattle.sv_arguments.specs.AuditWords.{IsFormat, format_name}
use Rattle.sv_arguments.specs.Laws.{AreSame, AskForOne, AuditsOne, SameAccess, SameViewer}
use Rattle.sv_arguments.specs.RunOptions.{GiveRun}
use Rattle.sv_arguments.specs.RunWords.{IsAccessLogFormat, access_log_format_name}
use Rattle.sv_arguments.specs.Settings.{Setting, values, words_of}
use Rattle.sv_arguments.specs.Values.{IsAddress, IsCount, IsDescriptor, IsGiven, IsName, Says, SaysOr}
use Rattle.sv_arguments.specs.declared.key.Key.TheVariants.{Accept, AccessLog, AccessLogFormat, As, Connections, Control, Diff, EndAllSessions, FailOn, Format, HeldMebibytes, IdleSeconds, Journal, Lines, Listen, Method, Path, Role, SameSeed, Secure, Sessions, SessionsEvery, SignalDescriptor, UnknownFiles}
use Rattle.sv_arguments.specs.declared.option_set.OptionSet.TheVariants as set
use Rattle.sv_arguments.specs.declared.run_options.AccessLogFormat as log
use Rattle.sv_arguments.specs.declared.run_options.AccessLogFormat.TheVariants as line
use Rattle.sv_arguments.specs.declared.run_options.RunOptions.{RunOptions}
use Rattle.sv_audit_command.specs.declared.access_options.AccessOptions.{AccessOptions}
use Rattle.sv_audit_command.specs.declared.access_options.Asked.{Asked}
use Rattle.sv_audit_command.specs.declared.access_options.Asked.TheVariants as asked
use Rattle.sv_audit_command.specs.declared.access_options.Format as report
use Rattle.sv_audit_command.specs.declared.access_options.Format.TheVariants.{Text, Json, Html, Keys}

says_one : {A : Type 0} (means : List ℕ → A → Type 0) → ((word : List ℕ) (x y : A) → means word x → means word y → x ≡ y)
    → (words : List (List ℕ)) (one other : Option A) → Says means words one → Says means words other → one ≡ other
says_one means unique [] None None a b = refl
says_one means unique [] None (Some y) a b = absurd b
says_one means unique [] (Some x) other a b = absurd a
says_one means unique (word ∷ []) None other a b = absurd a
says_one means unique (word ∷ []) (Some x) None a b = absurd b
says_one means unique (word ∷ []) (Some x) (Some y) a b = ap Some (unique word x y a b)
says_one means unique (word ∷ second ∷ words) None other a b = absurd a
says_one means unique (word ∷ second ∷ words) (Some x) other a b = absurd a

usual_one : {A : Type 0} (usual : A) (means : List ℕ → A → Type 0) → ((word : List ℕ) (x y : A) → means word x → means word y → x ≡ y)
    → (words : List (List ℕ)) (one other : A) → SaysOr usual means words one → SaysOr usual means words other → one ≡ other
usual_one usual means unique [] one other a b = a ∙ sym b
usual_one usual means unique (word ∷ []) one other a b = unique word one other a b
usual_one usual means unique (word ∷ second ∷ words) one other a b = absurd a

names_one : (words : List (List ℕ)) (one other : Option (Bor (List ℕ))) → Says IsName words one → Says IsName words other → option_copied one ≡ option_copied other
names_one [] None None a b = refl
names_one [] None (Some y) a b = absurd b
names_one [] (Some x) other a b = absurd a
names_one (word ∷ []) None other a b = absurd a
names_one (word ∷ []) (Some x) None a b = absurd b
names_one (word ∷ []) (Some x) (Some y) a b = ap Some (a ∙ sym b)
names_one (word ∷ second ∷ words) None other a b = absurd a
names_one (word ∷ second ∷ words) (Some x) other a b = absurd a

counts_one : (limit : ℕ) (word : List ℕ) (x y : ℕ) → IsCount limit word x → IsCount limit word y → x ≡ y
counts_one limit word x y a b = sym a.1 ∙ b.1

descriptors_one : (word : List ℕ) (x y : ℕ) → IsDescriptor word x → IsDescriptor word y → x ≡ y
descriptors_one word x y a b = counts_one 1048575 word x y a.0 b.0

given_one : (words : List (List ℕ)) (one other : Bool) → IsGiven words one → IsGiven words other → one ≡ other
given_one [] false false a b = refl
given_one [] false true a b = absurd b
given_one [] true other a b = absurd a
given_one (word ∷ []) true true a b = refl
given_one (word ∷ []) true false a b = absurd b
given_one (word ∷ []) false other a b = absurd a
given_one (word ∷ second ∷ words) one other a b = absurd a

-- the form of a name
format_at : List ℕ → report.Format
format_at word =
    if bytes_eq word (codes "json") then Json
    else if bytes_eq word (codes "html") then Html
    else if bytes_eq word (codes "keys") then Keys
    else Text

format_at-name : (format : report.Format) → format_at (format_name format) ≡ format
unfolding format_at
format_at-name Text = refl
format_at-name Json = refl
format_at-name Html = refl
format_at-name Keys = refl

pub formats_one : (word : List ℕ) (x y : report.Format) → IsFormat word x → IsFormat word y → x ≡ y
formats_one word x y a b = sym (format_at-name x) ∙ ap format_at (sym a ∙ b) ∙ format_at-name y

-- the form of lines of a name
access_log_format_at : List ℕ → log.AccessLogFormat
access_log_format_at word = if bytes_eq word (codes "json") then line.Json else line.Combined

access_log_format_at-name : (format : log.AccessLogFormat) → access_log_format_at (access_log_format_name format) ≡ format
unfolding access_log_format_at
access_log_format_at-name line.Combined = refl
access_log_format_at-name line.Json = refl

access_log_formats_one : (word : List ℕ) (x y : log.AccessLogFormat) → IsAccessLogFormat word x → IsAccessLogFormat word y → x ≡ y
access_log_formats_one word x y a b = sym (access_log_format_at-name x) ∙ ap access_log_format_at (sym a ∙ b) ∙ access_log_format_at-name y

viewers_one : (users roles : List (List ℕ)) (one other : Option Asked) → IsViewer users roles one → IsViewer users roles other → SameViewer one other
viewers_one [] [] None None a b = tt
viewers_one [] [] None (Some y) a b = absurd b
viewers_one [] [] (Some x) other a b = absurd a
viewers_one [] (role ∷ []) None other a b = absurd a
viewers_one [] (role ∷ []) (Some (asked.User x)) other a b = absurd a
viewers_one [] (role ∷ []) (Some (asked.Role x)) None a b = absurd b
viewers_one [] (role ∷ []) (Some (asked.Role x)) (Some (asked.User y)) a b = absurd b
viewers_one [] (role ∷ []) (Some (asked.Role x)) (Some (asked.Role y)) a b = a ∙ sym b
viewers_one [] (role ∷ second ∷ roles) one other a b = absurd a
viewers_one (user ∷ []) [] None other a b = absurd a
viewers_one (user ∷ []) [] (Some (asked.Role x)) other a b = absurd a
viewers_one (user ∷ []) [] (Some (asked.User x)) None a b = absurd b
viewers_one (user ∷ []) [] (Some (asked.User x)) (Some (asked.Role y)) a b = absurd b
viewers_one (user ∷ []) [] (Some (asked.User x)) (Some (asked.User y)) a b = a ∙ sym b
viewers_one (user ∷ []) (role ∷ roles) one other a b = absurd a
viewers_one (user ∷ second ∷ users) roles one other a b = absurd a

run_one : (settings : List Setting) (one other : RunOptions) → one.config.now ≡ other.config.now → GiveRun settings one → GiveRun settings other → AreSame one other
run_one settings one other config a b = (
  config,
  names_one (values Control settings) one.control other.control a.0 b.0,
  names_one (values Journal settings) one.journal other.journal a.1 b.1,
  names_one (values AccessLog settings) one.access_log other.access_log a.2 b.2,
  usual_one line.Combined IsAccessLogFormat access_log_formats_one (values AccessLogFormat settings) one.access_log_format other.access_log_format a.3 b.3,
  names_one (values Sessions settings) one.sessions other.sessions a.4 b.4,
  says_one (IsCount 86400) (counts_one 86400) (values SessionsEvery settings) one.sessions_every other.sessions_every a.5 b.5,
  given_one (values EndAllSessions settings) one.end_all_sessions other.end_all_sessions a.6 b.6,
  says_one IsAddress IsSocketText_unique (values Listen settings) one.listen other.listen a.7 b.7,
  given_one (values SameSeed settings) one.same_seed other.same_seed a.8 b.8,
  says_one (IsCount 1024) (counts_one 1024) (values Connections settings) one.connections other.connections a.9 b.9,
  says_one (IsCount 86400) (counts_one 86400) (values IdleSeconds settings) one.idle_seconds other.idle_seconds a.10 b.10,
  says_one (IsCount 1048576) (counts_one 1048576) (values HeldMebibytes settings) one.held_mebibytes other.held_mebibytes a.11 b.11,
  says_one IsDescriptor descriptors_one (values SignalDescriptor settings) one.signal_descriptor other.signal_descriptor a.12 b.12,
)

pub ask_for_one : AskForOne
ask_for_one arguments one other (s, is, proper, gives) (t, same, own, others) =
    let both = same_heads one.config.now other.config.now (words_of s) (words_of t) (sym is ∙ same) in
    let Give : List Setting → Type 0 = λ settings. GiveRun settings one in
    run_one t one other both.0 (subst Give (one_settings set.Run set.Run s t proper.0.0 own.0.0 both.1) gives) others

access_one : (settings : List Setting) (one other : AccessOptions) → GiveAccess settings one → GiveAccess settings other → SameAccess one other
access_one settings one other a b = (
  usual_one Text IsFormat formats_one (values Format settings) one.format other.format a.0 b.0,
  given_one (values Secure settings) one.is_secure other.is_secure a.1 b.1,
  viewers_one (values As settings) (values Role settings) one.viewer other.viewer a.2 b.2,
  names_one (values FailOn settings) one.fail_on other.fail_on a.3 b.3,
  names_one (values Accept settings) one.accept other.accept a.4 b.4,
  names_one (values Lines settings) one.lines other.lines a.5 b.5,
  given_one (values UnknownFiles settings) one.has_unknown_files other.has_unknown_files a.6 b.6,
  names_one (values Path settings) one.path other.path a.7 b.7,
  names_one (values Method settings) one.method other.method a.8 b.8,
  names_one (values Diff settings) one.diff other.diff a.9 b.9,
)

pub audits_one : AuditsOne
audits_one arguments one other (s, is, proper, gives) (t, same, own, others) =
    let both = same_heads one.config.now other.config.now (words_of s) (words_of t) (sym is ∙ same) in
    let Give : List Setting → Type 0 = λ settings. GiveAccess settings one.access in
    (both.0, access_one t one.access other.access (subst Give (one_settings set.Audit set.Audit s t proper.0.0 own.0.0 both.1) gives) others)
