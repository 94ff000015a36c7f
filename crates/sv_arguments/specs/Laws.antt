-- Laws of the meaning of arguments.
use Rattle.std.specs.Prelude.{◌≡◌, ◌≢◌, ◌<◌, ◌≤◌, ℕ, Bool, true, false, List, [], ◌∷◌, codes, flat_map, if◌then◌else◌, length, map, Option, Some, None, option_copied}
use Rattle.std.specs.List.{All, Contains}
use Rattle.std.specs.Str.{bytes_eq}
use Rattle.sv_arguments.specs.Command.{IsNamed}
use Rattle.sv_arguments.specs.HelpUsage.{other_line}
use Rattle.sv_arguments.specs.Manual.{manual_words}
use Rattle.sv_arguments.specs.Near.{distance, near}
use Rattle.sv_arguments.specs.Plain.{lacks_line, least_words, most_words}
use Rattle.sv_arguments.specs.AuditOptions.{IsAudit}
use Rattle.sv_arguments.specs.RunOptions.{IsAsked}
use Rattle.sv_arguments.specs.Settings.{key_word, option_keys, set_of, takes_word}
use Rattle.sv_arguments.specs.Topics.{commands, options, topic_name, topic_names, topic_usage}
use Rattle.sv_arguments.specs.Usage.{IsUsageLine}
use Rattle.sv_arguments.specs.declared.command.Command.{Command}
use Rattle.sv_arguments.specs.declared.command.Command.TheVariants.{First, Policy, Uncovered, Audit, Check, Replay, Serve, Run, Ctl, SelfTest, Help, Manual, Version}
use Rattle.sv_arguments.specs.declared.key.Key.{Key}
use Rattle.sv_arguments.specs.declared.manual.Manual.{Manual as ManualForm}
use Rattle.sv_arguments.specs.declared.option_set.OptionSet.{OptionSet}
use Rattle.sv_arguments.specs.declared.option_set.OptionSet.TheVariants as set
use Rattle.sv_arguments.specs.declared.topic.Topic.{Topic}
use Rattle.sv_arguments.specs.declared.topic.Topic.TheVariants as topic
use Rattle.sv_arguments.specs.declared.audit_options.AuditOptions.{AuditOptions}
use Rattle.sv_arguments.specs.declared.run_options.RunOptions.{RunOptions}
use Rattle.sv_audit_command.specs.declared.access_options.AccessOptions.{AccessOptions}
use Rattle.sv_audit_command.specs.declared.access_options.Asked.{Asked}
use Rattle.sv_audit_command.specs.declared.access_options.Asked.TheVariants as asked
use Rattle.sv_manual.specs.Manual.{named_usage}
use Rattle.sv_manual.specs.Rows.{OptionFields}

-- the same names, address and numbers, and the same form of lines
abbrev pub AreSame : RunOptions → RunOptions → Type 0
AreSame one other =
    (one.config.now ≡ other.config.now) × (option_copied one.control ≡ option_copied other.control) × (option_copied one.journal ≡ option_copied other.journal)
    × (option_copied one.access_log ≡ option_copied other.access_log) × (one.access_log_format ≡ other.access_log_format)
    × (option_copied one.sessions ≡ option_copied other.sessions) × (one.sessions_every ≡ other.sessions_every) × (one.end_all_sessions ≡ other.end_all_sessions)
    × (one.listen ≡ other.listen) × (one.same_seed ≡ other.same_seed) × (one.connections ≡ other.connections) × (one.idle_seconds ≡ other.idle_seconds)
    × (one.held_mebibytes ≡ other.held_mebibytes) × (one.signal_descriptor ≡ other.signal_descriptor)

abbrev pub AskForOne : Type 0
AskForOne = (arguments : List (List ℕ)) (one other : RunOptions) → IsAsked arguments one → IsAsked arguments other → AreSame one other

-- the same caller
abbrev pub SameViewer : Option Asked → Option Asked → Type 0
SameViewer None None = Unit {0}
SameViewer (Some (asked.User one)) (Some (asked.User other)) = one.now ≡ other.now
SameViewer (Some (asked.Role one)) (Some (asked.Role other)) = one.now ≡ other.now
SameViewer one other = ⊥

-- the same form, caller, kinds, names and options without a value
abbrev pub SameAccess : AccessOptions → AccessOptions → Type 0
SameAccess one other =
    (one.format ≡ other.format) × (one.is_secure ≡ other.is_secure) × SameViewer one.viewer other.viewer
    × (option_copied one.fail_on ≡ option_copied other.fail_on) × (option_copied one.accept ≡ option_copied other.accept)
    × (option_copied one.lines ≡ option_copied other.lines) × (one.has_unknown_files ≡ other.has_unknown_files)
    × (option_copied one.path ≡ option_copied other.path) × (option_copied one.method ≡ option_copied other.method)
    × (option_copied one.diff ≡ option_copied other.diff)

abbrev pub AuditsOne : Type 0
AuditsOne = (arguments : List (List ℕ)) (one other : AuditOptions) → IsAudit arguments one → IsAudit arguments other
    → (one.config.now ≡ other.config.now) × SameAccess one.access other.access

-- the topic of a command
abbrev pub topic_of : Command → Topic
topic_of (First deny_uncovered) = topic.First
topic_of (Policy question) = topic.Policy
topic_of (Uncovered config) = topic.Uncovered
topic_of (Audit options) = topic.Audit
topic_of (Check config) = topic.Check
topic_of (Replay config) = topic.Replay
topic_of (Serve service) = topic.Serve
topic_of (Run options) = topic.Run
topic_of (Ctl request) = topic.Ctl
topic_of (SelfTest config) = topic.SelfTest
topic_of (Help about) = topic.Help
topic_of (Manual manual) = topic.Help
topic_of Version = topic.Version

-- two commands of the same name, or the same help
abbrev pub AreAlike : Command → Command → Type 0
AreAlike (Help about) (Help other) = about ≡ other
AreAlike (Manual manual) (Manual other) = manual ≡ other
AreAlike one other = topic_of one ≡ topic_of other

abbrev pub NameOne : Type 0
NameOne = (arguments : List (List ℕ)) (one other : Command) → IsNamed arguments one → IsNamed arguments other → AreAlike one other

-- arguments that name no command have only one second line
abbrev pub HaveOneLine : Type 0
HaveOneLine = (arguments : List (List ℕ)) (one other : List ℕ) → IsUsageLine arguments one → IsUsageLine arguments other → one ≡ other

-- the commands without options and without words of their own
abbrev pub is_plain : Topic → Bool
is_plain topic.Run = false
is_plain topic.Audit = false
is_plain topic.Ctl = false
is_plain topic.Help = false
is_plain other = true

-- the words that name a command without options are no fewer and no more than it takes
abbrev pub TakeTheirWords : Type 0
TakeTheirWords = (name : List ℕ) (words : List (List ℕ)) (command : Command) → is_plain (topic_of command) ≡ true → IsNamed (name ∷ words) command
    → (least_words (topic_of command) ≤ length words) × (length words ≤ most_words (topic_of command))

-- the line about the words of a manual shows none of them
abbrev pub TakesManuals : Type 0
TakesManuals = (manual : ManualForm) → other_line (manual_words manual) ≡ lacks_line topic.Help

-- a near name is among the names, at most two edits away, and no name is nearer
abbrev pub NearIsNearest : Type 0
NearIsNearest = (names : List (List ℕ)) (word name : List ℕ) → near names word ≡ Some name
    → Contains names name × (distance name word ≤ 2) × All (λ other. distance name word ≤ distance other word) names

-- if no name is near to a word, all are more than two edits away, or the word is empty
abbrev pub OthersAreFar : Type 0
OthersAreFar = (names : List (List ℕ)) (word : List ℕ) → near names word ≡ None → word ≢ [] → All (λ other. 2 < distance other word) names

-- the manual has the commands, in the order of the help
abbrev pub ManualHasCommands : Type 0
ManualHasCommands = map (λ command. command.name) commands ≡ topic_names

-- the manual has the usage of each command
abbrev pub ManualHasUsages : Type 0
ManualHasUsages = (topic : Topic) → named_usage (topic_name topic) commands ≡ topic_usage topic

-- an option of the manual, if it is one of this command, and whether a word follows it
abbrev pub listed_option : List ℕ → OptionFields → List (List ℕ × Bool)
listed_option name option =
    if bytes_eq option.command name then (option.word, (if bytes_eq option.argument [] then false else true)) ∷ [] else []

-- the options of an option set, each with whether a word follows it
abbrev pub taken_options : OptionSet → List (List ℕ × Bool)
taken_options its = map (λ key. (key_word key, takes_word key)) (option_keys its)

-- the options of a command
abbrev pub topic_options : Topic → List (List ℕ × Bool)
topic_options topic.Run = taken_options set.Run
topic_options topic.Audit = taken_options set.Audit
topic_options topic.Help = (codes "--format", true) ∷ []
topic_options other = []

-- the manual has exactly the options of each command
abbrev pub ManualHasOptions : Type 0
ManualHasOptions = (topic : Topic) → flat_map (listed_option (topic_name topic)) options ≡ topic_options topic

-- every option is among those of its command
abbrev pub AreAllKeys : Type 0
AreAllKeys = (key : Key) → Contains (option_keys (set_of key)) key

-- the options of a command are its own
abbrev pub AreOwnKeys : Type 0
AreOwnKeys = (its : OptionSet) → map set_of (option_keys its) ≡ map (λ any. its) (option_keys its)
