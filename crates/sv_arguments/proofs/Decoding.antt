-- Words are the words of only one list of settings.
use Rattle.std.proofs.Common.{◌≡◌, ℕ, Bool, true, false, List, [], ◌∷◌, ◌++◌, Option, Some, None, refl, sym, ap, subst, ◌∙◌, append_assoc, append-nil, if◌then◌else◌}
use Rattle.std.proofs.lemmas.Bool.{true≢false}
use Rattle.std.proofs.lemmas.List.Elements.{All-head, All-tail}
use Rattle.std.specs.Prelude.{All, codes}
use Rattle.std.specs.Str.{bytes_eq}
use Rattle.sv_arguments.specs.Options.{IsProper, IsValue}
use Rattle.sv_arguments.specs.Settings.{Setting, Keyed, key_word, own_words, setting_words, takes_word, words_of}
use Rattle.sv_arguments.specs.declared.key.Key.{Key}
use Rattle.sv_arguments.specs.declared.key.Key.TheVariants.{Control, Journal, AccessLog, AccessLogFormat, Sessions, SessionsEvery, EndAllSessions, Listen, SameSeed, Connections, IdleSeconds, HeldMebibytes, SignalDescriptor, Secure, Format, As, Role, FailOn, Accept, Lines, UnknownFiles, Path, Method, Diff}
use Rattle.sv_arguments.specs.declared.option_set.OptionSet.{OptionSet}

-- the option of a word
key_at : List ℕ → Option Key
key_at word =
    if bytes_eq word (codes "--control") then Some Control
    else if bytes_eq word (codes "--journal") then Some Journal
    else if bytes_eq word (codes "--access-log") then Some AccessLog
    else if bytes_eq word (codes "--access-log-format") then Some AccessLogFormat
    else if bytes_eq word (codes "--sessions") then Some Sessions
    else if bytes_eq word (codes "--sessions-every") then Some SessionsEvery
    else if bytes_eq word (codes "--end-all-sessions") then Some EndAllSessions
    else if bytes_eq word (codes "--listen") then Some Listen
    else if bytes_eq word (codes "--same-seed") then Some SameSeed
    else if bytes_eq word (codes "--connections") then Some Connections
    else if bytes_eq word (codes "--idle-seconds") then Some IdleSeconds
    else if bytes_eq word (codes "--held-mebibytes") then Some HeldMebibytes
    else if bytes_eq word (codes "--signal-descriptor") then Some SignalDescriptor
    else if bytes_eq word (codes "--secure") then Some Secure
    else if bytes_eq word (codes "--format") then Some Format
    else if bytes_eq word (codes "--as") then Some As
    else if bytes_eq word (codes "--role") then Some Role
    else if bytes_eq word (codes "--fail-on") then Some FailOn
    else if bytes_eq word (codes "--accept") then Some Accept
    else if bytes_eq word (codes "--lines") then Some Lines
    else if bytes_eq word (codes "--unknown-files") then Some UnknownFiles
    else if bytes_eq word (codes "--path") then Some Path
    else if bytes_eq word (codes "--method") then Some Method
    else if bytes_eq word (codes "--diff") then Some Diff
    else None

key_at-key_word : (key : Key) → key_at (key_word key) ≡ Some key
unfolding key_at
key_at-key_word Control = refl
key_at-key_word Journal = refl
key_at-key_word AccessLog = refl
key_at-key_word AccessLogFormat = refl
key_at-key_word Sessions = refl
key_at-key_word SessionsEvery = refl
key_at-key_word EndAllSessions = refl
key_at-key_word Listen = refl
key_at-key_word SameSeed = refl
key_at-key_word Connections = refl
key_at-key_word IdleSeconds = refl
key_at-key_word HeldMebibytes = refl
key_at-key_word SignalDescriptor = refl
key_at-key_word Secure = refl
key_at-key_word Format = refl
key_at-key_word As = refl
key_at-key_word Role = refl
key_at-key_word FailOn = refl
key_at-key_word Accept = refl
key_at-key_word Lines = refl
key_at-key_word UnknownFiles = refl
key_at-key_word Path = refl
key_at-key_word Method = refl
key_at-key_word Diff = refl

pub key_word_injective : (a b : Key) → key_word a ≡ key_word b → a ≡ b
key_word_injective a b same = let e : Some a ≡ Some b = sym (key_at-key_word a) ∙ ap key_at same ∙ key_at-key_word b in cc

pub same_heads : {A : Type 0} (x y : A) (xs ys : List A) → x ∷ xs ≡ y ∷ ys → (x ≡ y) × (xs ≡ ys)
same_heads x y xs ys same =
    let first : x ≡ y = cc in
    let rest : xs ≡ ys = cc in
    (first, rest)

pub some_word : (x : List ℕ) (xs : List (List ℕ)) → [] ≡ x ∷ xs → ⊥
some_word x xs same = cc

-- the word after an option that takes none is empty
pub flag_empty : (key : Key) (word : List ℕ) → IsValue key word → takes_word key ≡ false → word ≡ []
flag_empty EndAllSessions word is none = is
flag_empty SameSeed word is none = is
flag_empty Secure word is none = is
flag_empty UnknownFiles word is none = is
flag_empty other word is none = absurd (true≢false none)

same_tails : (takes : Bool) (v w : List ℕ) (xs ys : List (List ℕ)) → (takes ≡ false → v ≡ []) → (takes ≡ false → w ≡ [])
    → own_words takes v ++ xs ≡ own_words takes w ++ ys → (v ≡ w) × (xs ≡ ys)
same_tails true v w xs ys a b same = same_heads v w xs ys same
same_tails false v w xs ys a b same = (a refl ∙ sym (b refl), same)

module _ (set other : OptionSet) where
  -- if words begin with those of two settings, the settings are equal
  pub first_same : (s t : Setting) (xs ys : List (List ℕ)) → IsProper set s → IsProper other t → setting_words s ++ xs ≡ setting_words t ++ ys → (s ≡ t) × (xs ≡ ys)
  first_same (Keyed a v) (Keyed b w) xs ys p q same =
      let heads = same_heads (key_word a) (key_word b) (own_words (takes_word a) v ++ xs) (own_words (takes_word b) w ++ ys) same in
      let key = key_word_injective a b heads.0 in
      let Tail : Key → Type 0 = λ k. own_words (takes_word a) v ++ xs ≡ own_words (takes_word k) w ++ ys in
      let Flag : Key → Type 0 = λ k. takes_word k ≡ false → w ≡ [] in
      let tails = same_tails (takes_word a) v w xs ys (flag_empty a v p.1) (subst Flag (sym key) (flag_empty b w q.1)) (subst Tail (sym key) heads.1) in
      (ap (λ (k : Key). Keyed k v) key ∙ ap (λ (word : List ℕ). Keyed b word) tails.0, tails.1)

  no_words : (s : Setting) (xs : List (List ℕ)) → [] ≡ setting_words s ++ xs → ⊥
  no_words (Keyed a v) xs same = some_word (key_word a) (own_words (takes_word a) v ++ xs) same

  pub settings_of_no_words : (settings : List Setting) → [] ≡ words_of settings → settings ≡ []
  settings_of_no_words [] same = refl
  settings_of_no_words (s ∷ settings) same = absurd (no_words s (words_of settings) same)

  -- if words begin with those of some settings, the rest are the words of the remaining settings
  pub split : (done settings : List Setting) (rest : List (List ℕ)) → All (IsProper set) settings → All (IsProper other) done → words_of settings ≡ words_of done ++ rest
      → (more : List Setting) × (settings ≡ done ++ more) × (rest ≡ words_of more)
  split [] settings rest all own same = (settings, refl, sym same)
  split (d ∷ done) [] rest all own same = absurd (no_words d (words_of done ++ rest) (same ∙ append_assoc (setting_words d) (words_of done) rest))
  split (d ∷ done) (s ∷ settings) rest all own same =
      let both = first_same s d (words_of settings) (words_of done ++ rest) (All-head (IsProper set) s settings all) (All-head (IsProper other) d done own)
      (same ∙ append_assoc (setting_words d) (words_of done) rest) in
      let deeper = split done settings rest (All-tail (IsProper set) s settings all) (All-tail (IsProper other) d done own) both.1 in (
        deeper.0,
        ap (λ (first : Setting). first ∷ settings) both.0 ∙ ap (λ (others : List Setting). d ∷ others) deeper.1,
        deeper.2,
      )

  pub one_settings : (a b : List Setting) → All (IsProper set) a → All (IsProper other) b → words_of a ≡ words_of b → a ≡ b
  one_settings a b all own same =
      let cut = split b a [] all own (same ∙ sym (append-nil (words_of b))) in
      cut.1 ∙ ap (λ (more : List Setting). b ++ more) (settings_of_no_words cut.0 cut.2) ∙ append-nil b
