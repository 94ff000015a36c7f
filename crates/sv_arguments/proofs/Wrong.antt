-- Arguments with a fault are no valid arguments.
use Rattle.std.proofs.Common.{◌≡◌, ℕ, ◌≤◌, List, [], ◌∷◌, ◌++◌, None, true, false, length, arith, sym, ap, subst, refl, ◌∙◌}
use Rattle.std.proofs.lemmas.Bool.{false≢true, true≢false}
use Rattle.std.proofs.lemmas.Grind.{flat_map-append}
use Rattle.std.proofs.lemmas.List.{length-append}
use Rattle.std.proofs.lemmas.List.Elements.{All-head, All-tail, All-weaker}
use Rattle.std.specs.Prelude.{All, Bool}
use Rattle.sv_arguments.proofs.Decoding.{key_word_injective, one_settings, same_heads, some_word, split}
use Rattle.sv_arguments.proofs.Lone.{lone_is}
use Rattle.sv_arguments.proofs.Setting.{finds_none, none_passes, own_value, some_none}
use Rattle.sv_arguments.specs.AuditOptions.{IsAudit}
use Rattle.sv_arguments.specs.OptionFault.{Lacks, IsRefused, IsWrong}
use Rattle.sv_arguments.specs.Options.{AreComplete, AreProper, HasUnfit, IsProper, IsValue}
use Rattle.sv_arguments.specs.RunOptions.{IsAsked}
use Rattle.sv_arguments.specs.Settings.{Setting, Keyed, given_rival, has_word, is_given, key_word, own_words, rivals, setting_words, takes_word, value_in, values, words_of}
use Rattle.sv_arguments.specs.declared.audit_options.AuditOptions.{AuditOptions}
use Rattle.sv_arguments.specs.declared.key.Key.{Key}
use Rattle.sv_arguments.specs.declared.option_fault.OptionFault.{OptionFault}
use Rattle.sv_arguments.specs.declared.option_fault.OptionFault.TheVariants.{NoServer, Unknown, Twice, Excluded, NoValue, BadValue, Alone, Unfit}
use Rattle.sv_arguments.specs.declared.option_set.OptionSet.{OptionSet}
use Rattle.sv_arguments.specs.declared.option_set.OptionSet.TheVariants as set
use Rattle.sv_arguments.specs.declared.run_options.RunOptions.{RunOptions}
use Rattle.sv_audit_command.specs.declared.access_options.Format.{Format}

only_one : (xs ys : List (List ℕ)) (x : List ℕ) → length (xs ++ x ∷ ys) ≤ 1 → xs ≡ []
only_one [] ys x few = refl
only_one (h ∷ xs) ys x few = absurd (omega (arith, length-append xs (x ∷ ys), few))

front_none : (xs ys : List (List ℕ)) → has_word (xs ++ ys) ≡ false → has_word xs ≡ false
front_none [] ys none = refl
front_none (h ∷ xs) ys none = absurd (true≢false none)

middle_some : (xs ys : List (List ℕ)) (x : List ℕ) → has_word (xs ++ x ∷ ys) ≡ true
middle_some [] ys x = refl
middle_some (h ∷ xs) ys x = refl

all_after : (P : Setting → Type 0) (done : List Setting) (rest : List Setting) → All P (done ++ rest) → All P rest
all_after P [] rest all = all
all_after P (d ∷ done) rest all = all_after P done rest (All-tail P d (done ++ rest) all)

-- the words after an option that is set again
values_keyed : (key : Key) (value : List ℕ) (done more : List Setting)
    → values key (done ++ Keyed key value ∷ more) ≡ values key done ++ (value ∷ values key more)
values_keyed key value done more =
    flat_map-append (value_in key) done (Keyed key value ∷ more)
    ∙ ap (λ (own : List (List ℕ)). values key done ++ (own ++ values key more)) (own_value key value)

module _ (its : OptionSet) (done : List Setting) where
  module _ (key : Key) (value : List ℕ) (more : List Setting) (proper : AreProper its (done ++ Keyed key value ∷ more)) where
    own : IsProper its (Keyed key value)
    own = All-head (IsProper its) (Keyed key value) more (all_after (IsProper its) done (Keyed key value ∷ more) proper.0)

    once : values key done ≡ []
    once =
        let Few : List (List ℕ) → Type 0 = λ words. length words ≤ 1 in
        only_one (values key done) (values key more) value (subst Few (values_keyed key value done more) (proper.1 key))

    given_before : (other : Key) → is_given (done ++ Keyed key value ∷ more) other ≡ false → is_given done other ≡ false
    given_before other none =
        front_none (values other done) (values other (Keyed key value ∷ more))
        (sym (ap has_word (flat_map-append (value_in other) done (Keyed key value ∷ more))) ∙ none)

    no_rival : given_rival done key ≡ None
    no_rival =
        let given : is_given (done ++ Keyed key value ∷ more) key ≡ true =
        ap has_word (values_keyed key value done more) ∙ middle_some (values key done) (values key more) value in
        finds_none (is_given done) (rivals key)
        (All-weaker (λ k. is_given (done ++ Keyed key value ∷ more) k ≡ false) (λ k. is_given done k ≡ false) given_before (rivals key)
        (none_passes (is_given (done ++ Keyed key value ∷ more)) (rivals key) (proper.2 key given)))

    -- words with a fault do not begin with one more setting
    module _ (words rest : List (List ℕ)) (same : words ≡ setting_words (Keyed key value) ++ rest) where
      named : (word : List ℕ) (after : List (List ℕ)) → words ≡ word ∷ after → (word ≡ key_word key) × (after ≡ own_words (takes_word key) value ++ rest)
      named word after is = same_heads word (key_word key) after (own_words (takes_word key) value ++ rest) (sym is ∙ same)

      same_key : (k : Key) (after : List (List ℕ)) → words ≡ key_word k ∷ after → k ≡ key
      same_key k after is = key_word_injective k key (named (key_word k) after is).0

      taken : (k : Key) (after : List (List ℕ)) → words ≡ key_word k ∷ after → takes_word k ≡ true → after ≡ value ∷ rest
      taken k after is some =
          (named (key_word k) after is).1
          ∙ ap (λ (takes : Bool). own_words takes value ++ rest) (sym (ap takes_word (same_key k after is)) ∙ some)

      pub not_next : (fault : OptionFault) → IsWrong its done words fault → ⊥
      not_next NoServer wrong = wrong
      not_next (Unknown word) (after, is, other) = other key (own.0, (named word.now after is).0)
      not_next (Twice k) (after, is, has, given) = given (ap (λ (any : Key). values any done) (same_key k after is) ∙ once)
      not_next (Excluded k other) (after, is, has, free, are) =
          some_none other (sym are ∙ ap (given_rival done) (same_key k after is) ∙ no_rival)
      not_next (NoValue k) (is, free, some) = some_word value rest (taken k [] is some)
      not_next (BadValue k text) (after, is, free, some, bad) =
          let heads = same_heads text.now value after rest (taken k (text.now ∷ after) is some) in
          let Is : Key → Type 0 = λ any. IsValue any value in
          let At : List ℕ → Type 0 = λ word. IsValue k word in
          bad (subst At (sym heads.0) (subst Is (sym (same_key k (text.now ∷ after) is)) own.1))
      not_next (Alone k other) wrong = wrong
      not_next (Unfit form) wrong = wrong

  none_wrong : (words : List (List ℕ)) (fault : OptionFault) → IsWrong its done words fault → words ≡ [] → ⊥
  none_wrong words NoServer wrong none = wrong
  none_wrong words (Unknown word) (after, is, other) none = some_word word.now after (sym none ∙ is)
  none_wrong words (Twice key) (after, is, has, given) none = some_word (key_word key) after (sym none ∙ is)
  none_wrong words (Excluded key other) (after, is, has, free, are) none = some_word (key_word key) after (sym none ∙ is)
  none_wrong words (NoValue key) (is, free, some) none = some_word (key_word key) [] (sym none ∙ is)
  none_wrong words (BadValue key value) (after, is, free, some, bad) none = some_word (key_word key) (value.now ∷ after) (sym none ∙ is)
  none_wrong words (Alone key other) wrong none = wrong
  none_wrong words (Unfit form) wrong none = wrong

  -- words with a fault are not those of further settings
  not_more : (words : List (List ℕ)) (fault : OptionFault) → IsWrong its done words fault → (more : List Setting) → words ≡ words_of more
      → AreProper its (done ++ more) → ⊥
  not_more words fault wrong [] same proper = none_wrong words fault wrong same
  not_more words fault wrong (Keyed key value ∷ more) same proper = not_next key value more proper words (words_of more) same fault wrong

abbrev pub IsStopped : OptionSet → List (List ℕ) → OptionFault → Type 0
IsStopped its arguments fault =
    (config : List ℕ) × (settings : List Setting) × (rest : List (List ℕ))
    × (arguments ≡ config ∷ (words_of settings ++ rest)) × AreProper its settings × IsWrong its settings rest fault

-- the arguments are a name and the words of proper settings, which have an option without another
abbrev pub IsLacking : OptionSet → List (List ℕ) → Key → Key → Type 0
IsLacking its arguments key other =
    (config : List ℕ) × (settings : List Setting) × (arguments ≡ config ∷ words_of settings) × AreProper its settings × Lacks its settings key other

-- the arguments are a name and the words of proper settings
abbrev pub AreRead : OptionSet → List (List ℕ) → Type 0
AreRead its arguments = (config : List ℕ) × (settings : List Setting) × (arguments ≡ config ∷ words_of settings) × AreProper its settings

-- the arguments are a name and the words of complete settings
abbrev pub AreValid : OptionSet → List (List ℕ) → Type 0
AreValid its arguments = (config : List ℕ) × (settings : List Setting) × (arguments ≡ config ∷ words_of settings) × AreComplete its settings

pub stopped_not_read : (its : OptionSet) (arguments : List (List ℕ)) (fault : OptionFault) → IsStopped its arguments fault → AreRead its arguments → ⊥
stopped_not_read its arguments fault (config, settings, rest, same, proper, wrong) (name, all, is, valid) =
    let heads = same_heads name config (words_of all) (words_of settings ++ rest) (sym is ∙ same) in
    let cut = split its its settings all rest valid.0 proper.0 heads.1 in
    let Are : List Setting → Type 0 = λ others. AreProper its others in
    not_more its settings rest fault wrong cut.0 cut.2 (subst Are cut.1 valid)

stopped_not_valid : (its : OptionSet) (arguments : List (List ℕ)) (fault : OptionFault) → IsStopped its arguments fault → AreValid its arguments → ⊥
stopped_not_valid its arguments fault stopped (name, all, is, valid) = stopped_not_read its arguments fault stopped (name, all, is, valid.0)

lacking_not_valid : (its : OptionSet) (arguments : List (List ℕ)) (key other : Key) → IsLacking its arguments key other → AreValid its arguments → ⊥
lacking_not_valid its arguments key other (config, settings, same, proper, lacks) (name, all, is, valid) =
    let lone = lone_is settings its key other lacks in
    let heads = same_heads config name (words_of settings) (words_of all) (sym same ∙ is) in
    let one = one_settings its its settings all proper.0 valid.0.0 heads.1 in
    false≢true
    (sym lone.1 ∙ ap (λ (any : List Setting). is_given any other) one
    ∙ valid.1 key other lacks.1 (sym (ap (λ (any : List Setting). is_given any key) one) ∙ lone.0))

unfit_not_valid : (its : OptionSet) (arguments : List (List ℕ)) (form : Format) → IsRefused its arguments (Unfit form) → AreValid its arguments → ⊥
unfit_not_valid its arguments form (config, settings, same, proper, unfit) (name, all, is, valid) =
    let heads = same_heads config name (words_of settings) (words_of all) (sym same ∙ is) in
    let one = one_settings its its settings all proper.0 valid.0.0 heads.1 in
    let Has : List Setting → Type 0 = λ any. HasUnfit any form in
    valid.2 form (subst Has one unfit)

not_valid : (its : OptionSet) (arguments : List (List ℕ)) (fault : OptionFault) → IsRefused its arguments fault → AreValid its arguments → ⊥
not_valid its arguments NoServer none (name, all, is, valid) = some_word name (words_of all) (sym none ∙ is)
not_valid its arguments (Unknown word) refused valid = stopped_not_valid its arguments (Unknown word) refused valid
not_valid its arguments (Twice key) refused valid = stopped_not_valid its arguments (Twice key) refused valid
not_valid its arguments (Excluded key other) refused valid = stopped_not_valid its arguments (Excluded key other) refused valid
not_valid its arguments (NoValue key) refused valid = stopped_not_valid its arguments (NoValue key) refused valid
not_valid its arguments (BadValue key value) refused valid = stopped_not_valid its arguments (BadValue key value) refused valid
not_valid its arguments (Alone key other) refused valid = lacking_not_valid its arguments key other refused valid
not_valid its arguments (Unfit form) refused valid = unfit_not_valid its arguments form refused valid

pub not_asked : (arguments : List (List ℕ)) (fault : OptionFault) → IsRefused set.Run arguments fault → (asked : RunOptions) → IsAsked arguments asked → ⊥
not_asked arguments fault refused asked (settings, is, proper, give) =
    not_valid set.Run arguments fault refused (asked.config.now, settings, is, proper)

pub not_audit : (arguments : List (List ℕ)) (fault : OptionFault) → IsRefused set.Audit arguments fault → (asked : AuditOptions) → IsAudit arguments asked → ⊥
not_audit arguments fault refused asked (settings, is, proper, give) =
    not_valid set.Audit arguments fault refused (asked.config.now, settings, is, proper)
