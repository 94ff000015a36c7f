-- Arguments that name no command have only one line.
use Rattle.std.proofs.Common.{◌≡◌, ◌≢◌, ℕ, ◌⊎◌, true, List, [], ◌∷◌, ◌++◌, Option, Some, None, inl, inr, append-nil, append_assoc, arith, refl, sym, ap, subst, ◌∙◌}
use Rattle.std.proofs.lemmas.Bool.{false≢true}
use Rattle.std.proofs.lemmas.List.Elements.{All-head, All-tail}
use Rattle.std.specs.Prelude.{All, codes}
use Rattle.sv_arguments.proofs.Decoding.{first_same, key_word_injective, one_settings, same_heads, some_word}
use Rattle.sv_arguments.proofs.Lone.{lone_is, same_some}
use Rattle.sv_arguments.proofs.OneTopic.{called_one, finds_one, named_one}
use Rattle.sv_arguments.proofs.Setting.{either_none, given_proper, some_none}
use Rattle.sv_arguments.proofs.Unfit.{one_unfit}
use Rattle.sv_arguments.proofs.Wrong.{IsStopped, not_next, stopped_not_read}
use Rattle.sv_arguments.specs.HelpUsage.{IsHelpLine, called_line}
use Rattle.sv_arguments.specs.OptionFault.{IsFree, IsRefused, IsWrong, Lacks}
use Rattle.sv_arguments.specs.Options.{AreProper, HasUnfit, IsProper}
use Rattle.sv_arguments.specs.Settings.{Setting, Keyed, IsKey, given_rival, has_word, is_given, key_word, needed, set_of, setting_words, values, words_of}
use Rattle.sv_arguments.specs.Topics.{IsCalled, topic_name}
use Rattle.sv_arguments.specs.Usage.{IsLineAfter, IsOptionLine, IsUsageLine, needs_line, option_fault_line, unknown_option}
use Rattle.sv_program.specs.Shown.{quoted}
use Rattle.sv_arguments.specs.declared.key.Key.{Key}
use Rattle.sv_arguments.specs.declared.key.Key.TheVariants.{AccessLogFormat, Diff, EndAllSessions, Method, SessionsEvery}
use Rattle.sv_arguments.specs.declared.option_fault.OptionFault.{OptionFault}
use Rattle.sv_arguments.specs.declared.option_fault.OptionFault.TheVariants.{NoServer, Unknown, Twice, Excluded, NoValue, BadValue, Alone, Unfit}
use Rattle.sv_arguments.specs.declared.option_set.OptionSet.{OptionSet}
use Rattle.sv_arguments.specs.declared.option_set.OptionSet.TheVariants as set
use Rattle.sv_arguments.specs.declared.topic.Topic.{Topic}
use Rattle.sv_arguments.specs.declared.topic.Topic.TheVariants.{Run, Audit, Help}
use Rattle.sv_audit_command.specs.declared.access_options.Format.{Format}

module _ (its : OptionSet) (settings : List Setting) (words : List (List ℕ)) where
  -- a word that is no option of the command is not the word of one
  unknown_known : (word : List ℕ) (key : Key) (after rest : List (List ℕ)) → words ≡ word ∷ after → ((any : Key) → IsKey its word any → ⊥)
      → set_of key ≡ its → words ≡ key_word key ∷ rest → ⊥
  unknown_known word key after rest is other has same = other key (has, (same_heads word (key_word key) after rest (sym is ∙ same)).0)

  one_key : (a b : Key) (after rest : List (List ℕ)) → words ≡ key_word a ∷ after → words ≡ key_word b ∷ rest → (a ≡ b) × (after ≡ rest)
  one_key a b after rest is same =
      let heads = same_heads (key_word a) (key_word b) after rest (sym is ∙ same) in (key_word_injective a b heads.0, heads.1)

  given_free : (a b : Key) (after rest : List (List ℕ)) → words ≡ key_word a ∷ after → words ≡ key_word b ∷ rest
      → values a settings ≢ [] → values b settings ≡ [] → ⊥
  given_free a b after rest is same given free =
      given (ap (λ (key : Key). values key settings) (one_key a b after rest is same).0 ∙ free)

  -- an option that excludes a given one is not free
  excluded_free : (a b other : Key) (after rest : List (List ℕ)) → words ≡ key_word a ∷ after → words ≡ key_word b ∷ rest
      → given_rival settings a ≡ Some other → IsFree its settings b → ⊥
  excluded_free a b other after rest is same are free =
      some_none other (sym are ∙ ap (given_rival settings) (one_key a b after rest is same).0 ∙ free.2)

  one_rival : (a b other another : Key) → a ≡ b → given_rival settings a ≡ Some other → given_rival settings b ≡ Some another → other ≡ another
  one_rival a b other another same one two = let e : Some other ≡ Some another = sym one ∙ ap (given_rival settings) same ∙ two in cc

  -- words after some settings have only one fault
  one_wrong : (one other : OptionFault) → IsWrong its settings words one → IsWrong its settings words other
      → option_fault_line its one ≡ option_fault_line its other
  one_wrong one NoServer a b = absurd b
  one_wrong NoServer other a b = absurd a
  one_wrong one (Alone key by) a b = absurd b
  one_wrong (Alone key by) other a b = absurd a
  one_wrong one (Unfit form) a b = absurd b
  one_wrong (Unfit form) other a b = absurd a
  one_wrong (Unknown word) (Unknown next) (after, is, other) (rest, same, none) =
      ap (unknown_option its) (same_heads word.now next.now after rest (sym is ∙ same)).0
  one_wrong (Unknown word) (Twice key) (after, is, other) (rest, same, has, given) =
      absurd (unknown_known word.now key after rest is other has same)
  one_wrong (Unknown word) (Excluded key by) (after, is, other) (rest, same, has, free, are) =
      absurd (unknown_known word.now key after rest is other has same)
  one_wrong (Unknown word) (NoValue key) (after, is, other) (same, free, some) =
      absurd (unknown_known word.now key after [] is other free.0 same)
  one_wrong (Unknown word) (BadValue key value) (after, is, other) (rest, same, free, some, bad) =
      absurd (unknown_known word.now key after (value.now ∷ rest) is other free.0 same)
  one_wrong (Twice key) (Unknown word) (rest, same, has, given) (after, is, other) =
      absurd (unknown_known word.now key after rest is other has same)
  one_wrong (Excluded key by) (Unknown word) (rest, same, has, free, are) (after, is, other) =
      absurd (unknown_known word.now key after rest is other has same)
  one_wrong (NoValue key) (Unknown word) (same, free, some) (after, is, other) =
      absurd (unknown_known word.now key after [] is other free.0 same)
  one_wrong (BadValue key value) (Unknown word) (rest, same, free, some, bad) (after, is, other) =
      absurd (unknown_known word.now key after (value.now ∷ rest) is other free.0 same)
  one_wrong (Twice key) (Twice next) (after, is, has, given) (rest, same, own, more) =
      ap (λ (own : Key). option_fault_line its (Twice own)) (one_key key next after rest is same).0
  one_wrong (Twice key) (Excluded next by) (after, is, has, given) (rest, same, own, free, are) =
      absurd (given_free key next after rest is same given free)
  one_wrong (Twice key) (NoValue next) (after, is, has, given) (same, free, some) =
      absurd (given_free key next after [] is same given free.1)
  one_wrong (Twice key) (BadValue next value) (after, is, has, given) (rest, same, free, some, bad) =
      absurd (given_free key next after (value.now ∷ rest) is same given free.1)
  one_wrong (Excluded key by) (Twice next) (rest, same, own, free, are) (after, is, has, given) =
      absurd (given_free next key after rest is same given free)
  one_wrong (NoValue key) (Twice next) (same, free, some) (after, is, has, given) =
      absurd (given_free next key after [] is same given free.1)
  one_wrong (BadValue key value) (Twice next) (rest, same, free, some, bad) (after, is, has, given) =
      absurd (given_free next key after (value.now ∷ rest) is same given free.1)
  one_wrong (Excluded key by) (Excluded next from) (after, is, has, free, are) (rest, same, own, unset, others) =
      let keys = (one_key key next after rest is same).0 in
      ap (λ (own : Key). option_fault_line its (Excluded own by)) keys
      ∙ ap (λ (other : Key). option_fault_line its (Excluded next other)) (one_rival key next by from keys are others)
  one_wrong (Excluded key by) (NoValue next) (after, is, has, free, are) (same, own, some) =
      absurd (excluded_free key next by after [] is same are own)
  one_wrong (Excluded key by) (BadValue next value) (after, is, has, free, are) (rest, same, own, some, bad) =
      absurd (excluded_free key next by after (value.now ∷ rest) is same are own)
  one_wrong (NoValue next) (Excluded key by) (same, own, some) (after, is, has, free, are) =
      absurd (excluded_free key next by after [] is same are own)
  one_wrong (BadValue next value) (Excluded key by) (rest, same, own, some, bad) (after, is, has, free, are) =
      absurd (excluded_free key next by after (value.now ∷ rest) is same are own)
  one_wrong (NoValue key) (NoValue next) (is, free, some) (same, none, more) = ap needs_line (one_key key next [] [] is same).0
  one_wrong (NoValue key) (BadValue next value) (is, free, some) (rest, same, none, more, bad) =
      absurd (some_word value.now rest (one_key key next [] (value.now ∷ rest) is same).1)
  one_wrong (BadValue key value) (NoValue next) (rest, same, none, more, bad) (is, free, some) =
      absurd (some_word value.now rest (one_key next key [] (value.now ∷ rest) is same).1)
  one_wrong (BadValue key value) (BadValue next word) (after, is, free, some, bad) (rest, same, none, more, wrong) =
      let both = one_key key next (value.now ∷ after) (word.now ∷ rest) is same in
      ap (λ (own : Key). needs_line own ++ codes ", not " ++ quoted value.now) both.0
      ∙ ap (λ (text : List ℕ). needs_line next ++ codes ", not " ++ quoted text) (same_heads value.now word.now after rest both.1).0

-- of two fronts of the same words, one continues the other
abbrev pub Continues : List Setting → List Setting → List (List ℕ) → List (List ℕ) → Type 0
Continues a b x y = (more : List Setting) × (b ≡ a ++ more) × (x ≡ words_of more ++ y)

longer : (s t : Setting) (a b : List Setting) (x y : List (List ℕ)) → s ≡ t → Continues a b x y ⊎ Continues b a y x
    → Continues (s ∷ a) (t ∷ b) x y ⊎ Continues (t ∷ b) (s ∷ a) y x
longer s t a b x y same (inl (more, is, rest)) =
    inl (more, ap (λ (first : Setting). first ∷ b) (sym same) ∙ ap (λ (others : List Setting). s ∷ others) is, rest)
longer s t a b x y same (inr (more, is, rest)) =
    inr (more, ap (λ (first : Setting). first ∷ a) same ∙ ap (λ (others : List Setting). t ∷ others) is, rest)

fork : (its : OptionSet) (a b : List Setting) (x y : List (List ℕ)) → All (IsProper its) a → All (IsProper its) b → words_of a ++ x ≡ words_of b ++ y
    → Continues a b x y ⊎ Continues b a y x
fork its [] b x y all own same = inl (b, refl, same)
fork its (s ∷ a) [] x y all own same = inr (s ∷ a, refl, sym same)
fork its (s ∷ a) (t ∷ b) x y all own same =
    let both = first_same its its s t (words_of a ++ x) (words_of b ++ y) (All-head (IsProper its) s a all) (All-head (IsProper its) t b own)
    (sym (append_assoc (setting_words s) (words_of a) x) ∙ same ∙ append_assoc (setting_words t) (words_of b) y) in
    longer s t a b x y both.0 (fork its a b x y (All-tail (IsProper its) s a all) (All-tail (IsProper its) t b own) both.1)

-- a longer row of settings is impossible before a fault, so two faults are at the same words
one_front : (its : OptionSet) (a more : List Setting) (x y : List (List ℕ)) (one other : OptionFault) → x ≡ words_of more ++ y
    → IsWrong its a x one → AreProper its (a ++ more) → IsWrong its (a ++ more) y other → option_fault_line its one ≡ option_fault_line its other
one_front its a [] x y one other same wrong proper bad =
    let Is : List Setting → Type 0 = λ settings. IsWrong its settings y other in
    let At : List (List ℕ) → Type 0 = λ words. IsWrong its a words one in
    one_wrong its a y one other (subst At same wrong) (subst Is (append-nil a) bad)
one_front its a (Keyed key value ∷ more) x y one other same wrong proper bad =
    absurd (not_next its a key value more proper x (words_of more ++ y)
    (same ∙ append_assoc (setting_words (Keyed key value)) (words_of more) y) one wrong)

either_front : (its : OptionSet) (a b : List Setting) (x y : List (List ℕ)) (one other : OptionFault) → Continues a b x y ⊎ Continues b a y x
    → AreProper its a → IsWrong its a x one → AreProper its b → IsWrong its b y other → option_fault_line its one ≡ option_fault_line its other
either_front its a b x y one other (inl (more, is, rest)) proper wrong own bad =
    let Are : List Setting → Type 0 = λ settings. AreProper its settings in
    let Is : List Setting → Type 0 = λ settings. IsWrong its settings y other in
    one_front its a more x y one other rest wrong (subst Are is own) (subst Is is bad)
either_front its a b x y one other (inr (more, is, rest)) proper wrong own bad =
    let Are : List Setting → Type 0 = λ settings. AreProper its settings in
    let Is : List Setting → Type 0 = λ settings. IsWrong its settings x one in
    sym (one_front its b more y x other one rest bad (subst Are is proper) (subst Is is wrong))

one_stopped : (its : OptionSet) (arguments : List (List ℕ)) (one other : OptionFault) → IsStopped its arguments one → IsStopped its arguments other
    → option_fault_line its one ≡ option_fault_line its other
one_stopped its arguments one other (o, a, x, is, proper, wrong) (p, b, y, same, own, bad) =
    either_front its a b x y one other
    (fork its a b x y proper.0 own.0 (same_heads o p (words_of a ++ x) (words_of b ++ y) (sym is ∙ same)).1)
    proper wrong own bad

-- there are no arguments
abbrev pub IsMissing : List (List ℕ) → OptionFault → Type 0
IsMissing arguments fault = (arguments ≡ []) × (fault ≡ NoServer)

-- all words are read, and an option lacks another, or another server excludes the form
abbrev pub IsUnmet : OptionSet → List Setting → OptionFault → Type 0
IsUnmet its settings (Alone key other) = Lacks its settings key other
IsUnmet its settings (Unfit form) = HasUnfit settings form
IsUnmet its settings fault = ⊥

abbrev pub IsLate : OptionSet → List (List ℕ) → OptionFault → Type 0
IsLate its arguments fault =
    (config : List ℕ) × (settings : List Setting) × (arguments ≡ config ∷ words_of settings) × AreProper its settings × IsUnmet its settings fault

refused_how : (its : OptionSet) (arguments : List (List ℕ)) (fault : OptionFault) → IsRefused its arguments fault
    → IsMissing arguments fault ⊎ (IsStopped its arguments fault ⊎ IsLate its arguments fault)
refused_how its arguments NoServer refused = inl (refused, refl)
refused_how its arguments (Unknown word) refused = inr (inl refused)
refused_how its arguments (Twice key) refused = inr (inl refused)
refused_how its arguments (Excluded key other) refused = inr (inl refused)
refused_how its arguments (NoValue key) refused = inr (inl refused)
refused_how its arguments (BadValue key value) refused = inr (inl refused)
refused_how its arguments (Alone key other) refused = inr (inr refused)
refused_how its arguments (Unfit form) refused = inr (inr refused)

late_not_stopped : (its : OptionSet) (arguments : List (List ℕ)) (one other : OptionFault) → IsStopped its arguments one → IsLate its arguments other → ⊥
late_not_stopped its arguments one other stopped (config, settings, same, proper, unmet) =
    stopped_not_read its arguments one stopped (config, settings, same, proper)

run_audit : set.Run ≡ set.Audit → ⊥
run_audit same = cc

module _ (its : OptionSet) (settings : List Setting) (proper : AreProper its settings) where
  given_none : (key : Key) → is_given settings key ≡ true → values key settings ≡ [] → ⊥
  given_none key given none = false≢true (sym (ap has_word none) ∙ given)

  -- options that are given are of one command
  one_command : (a b : Key) → is_given settings a ≡ true → is_given settings b ≡ true → set_of a ≡ set_of b
  one_command a b given other = given_proper its a settings proper.0 given ∙ sym (given_proper its b settings proper.0 other)

  -- a method without a request is given with no other server
  method_unfit : is_given settings Method ≡ true → is_given settings Diff ≡ true → ⊥
  method_unfit given server = by (either_none its settings proper Method Diff (0, omega arith, refl))
    where
      by : (values Method settings ≡ []) ⊎ (values Diff settings ≡ []) → ⊥
      by (inl none) = given_none Method given none
      by (inr none) = given_none Diff server none

  -- no option that needs another is given with another server
  lone_unfit : (key other : Key) → needed key ≡ Some other → is_given settings key ≡ true → is_given settings Diff ≡ true → ⊥
  lone_unfit AccessLogFormat other needs given server = run_audit (one_command AccessLogFormat Diff given server)
  lone_unfit SessionsEvery other needs given server = run_audit (one_command SessionsEvery Diff given server)
  lone_unfit EndAllSessions other needs given server = run_audit (one_command EndAllSessions Diff given server)
  lone_unfit Method other needs given server = method_unfit given server
  lone_unfit key other needs given server = some_none other (sym needs)

  one_lone : (key by next from : Key) → Lacks its settings key by → Lacks its settings next from
      → option_fault_line its (Alone key by) ≡ option_fault_line its (Alone next from)
  one_lone key by next from (first, needs) (other, more) =
      let same : key ≡ next = same_some key next (sym first ∙ other) in
      let last : by ≡ from = same_some by from (sym needs ∙ ap needed same ∙ more) in
      ap (λ (any : Key). option_fault_line its (Alone any by)) same
      ∙ ap (λ (any : Key). option_fault_line its (Alone next any)) last

  -- settings lack only one thing
  one_unmet : (one other : OptionFault) → IsUnmet its settings one → IsUnmet its settings other → option_fault_line its one ≡ option_fault_line its other
  one_unmet one NoServer a b = absurd b
  one_unmet one (Unknown word) a b = absurd b
  one_unmet one (Twice key) a b = absurd b
  one_unmet one (Excluded key by) a b = absurd b
  one_unmet one (NoValue key) a b = absurd b
  one_unmet one (BadValue key value) a b = absurd b
  one_unmet NoServer other a b = absurd a
  one_unmet (Unknown word) other a b = absurd a
  one_unmet (Twice key) other a b = absurd a
  one_unmet (Excluded key by) other a b = absurd a
  one_unmet (NoValue key) other a b = absurd a
  one_unmet (BadValue key value) other a b = absurd a
  one_unmet (Alone key by) (Alone next from) a b = one_lone key by next from a b
  one_unmet (Alone key by) (Unfit form) a (word, is, unfit, server) = absurd (lone_unfit key by a.1 (lone_is settings its key by a).0 server)
  one_unmet (Unfit form) (Alone key by) (word, is, unfit, server) b = absurd (lone_unfit key by b.1 (lone_is settings its key by b).0 server)
  one_unmet (Unfit form) (Unfit other) a b = ap (λ (any : Format). option_fault_line its (Unfit any)) (one_unfit settings form other a b)

one_late : (its : OptionSet) (arguments : List (List ℕ)) (one other : OptionFault) → IsLate its arguments one → IsLate its arguments other
    → option_fault_line its one ≡ option_fault_line its other
one_late its arguments one other (config, settings, at, proper, unmet) (name, others, from, own, more) =
    let heads = same_heads config name (words_of settings) (words_of others) (sym at ∙ from) in
    let same = one_settings its its settings others proper.0 own.0 heads.1 in
    let Is : List Setting → Type 0 = λ any. IsUnmet its any one in
    one_unmet its others own one other (subst Is same unmet) more

one_refused : (its : OptionSet) (arguments : List (List ℕ)) (one other : OptionFault)
    → IsMissing arguments one ⊎ (IsStopped its arguments one ⊎ IsLate its arguments one)
    → IsMissing arguments other ⊎ (IsStopped its arguments other ⊎ IsLate its arguments other)
    → option_fault_line its one ≡ option_fault_line its other
one_refused its arguments one other (inl (none, a)) (inl (same, b)) = ap (option_fault_line its) (a ∙ sym b)
one_refused its arguments one other (inl (none, a)) (inr (inl (p, settings, rest, is, proper, wrong))) = absurd (some_word p (words_of settings ++ rest) (sym none ∙ is))
one_refused its arguments one other (inl (none, a)) (inr (inr (p, settings, same, proper, unmet))) = absurd (some_word p (words_of settings) (sym none ∙ same))
one_refused its arguments one other (inr (inl (p, settings, rest, is, proper, wrong))) (inl (none, a)) = absurd (some_word p (words_of settings ++ rest) (sym none ∙ is))
one_refused its arguments one other (inr (inr (p, settings, same, proper, unmet))) (inl (none, a)) = absurd (some_word p (words_of settings) (sym none ∙ same))
one_refused its arguments one other (inr (inl a)) (inr (inl b)) = one_stopped its arguments one other a b
one_refused its arguments one other (inr (inl a)) (inr (inr b)) = absurd (late_not_stopped its arguments one other a b)
one_refused its arguments one other (inr (inr a)) (inr (inl b)) = absurd (late_not_stopped its arguments other one b a)
one_refused its arguments one other (inr (inr a)) (inr (inr b)) = one_late its arguments one other a b

one_option_line : (its : OptionSet) (arguments : List (List ℕ)) (a b : List ℕ) → IsOptionLine its arguments a → IsOptionLine its arguments b → a ≡ b
one_option_line its arguments a b (one, refused, is) (other, wrong, same) =
    is ∙ one_refused its arguments one other (refused_how its arguments one refused) (refused_how its arguments other wrong) ∙ sym same

one_help_line : (name : List ℕ) (arguments : List (List ℕ)) (a b : List ℕ) → IsHelpLine name arguments a → IsHelpLine name arguments b → a ≡ b
one_help_line name [] a b is same = is ∙ sym same
one_help_line name (word ∷ words) a b (one, finds, is) (other, found, same) =
    is ∙ ap (λ (topic : Option Topic). called_line name topic word words) (finds_one (λ topic. word ≡ topic_name topic) (named_one word) one other finds found) ∙ sym same

one_line_after : (word : List ℕ) (topic : Option Topic) (arguments : List (List ℕ)) (a b : List ℕ) → IsLineAfter word topic arguments a
    → IsLineAfter word topic arguments b → a ≡ b
one_line_after word None arguments a b is same = is ∙ sym same
one_line_after word (Some Run) arguments a b is same = one_option_line set.Run arguments a b is same
one_line_after word (Some Audit) arguments a b is same = one_option_line set.Audit arguments a b is same
one_line_after word (Some Help) arguments a b is same = one_help_line word arguments a b is same
one_line_after word (Some topic) arguments a b is same = is ∙ sym same

-- arguments have only one line
pub one_line : (arguments : List (List ℕ)) (a b : List ℕ) → IsUsageLine arguments a → IsUsageLine arguments b → a ≡ b
one_line [] a b is same = is ∙ sym same
one_line (word ∷ arguments) a b (one, finds, is) (other, found, same) =
    let After : Option Topic → Type 0 = λ topic. IsLineAfter word topic arguments b in
    one_line_after word one arguments a b is (subst After (sym (finds_one (IsCalled word) (called_one word) one other finds found)) same)
