-- Options without the one that they need.
use Rattle.std.proofs.Common.{◌≡◌, Bool, true, false, ◌&&◌, not, List, [], ◌∷◌, Option, Some, None, cond, refl, sym, ap, subst, ◌∙◌}
use Rattle.std.proofs.lemmas.Bool.{false≢true, true≢false}
use Rattle.std.proofs.lemmas.List.Elements.{All-contains}
use Rattle.std.specs.List.{Contains, find}
use Rattle.sv_arguments.proofs.Setting.{given_proper, none_passes}
use Rattle.sv_arguments.proofs.Tables.{listed_key}
use Rattle.sv_arguments.specs.OptionFault.{IsLone, Lacks}
use Rattle.sv_arguments.specs.Options.{AreProper}
use Rattle.sv_arguments.specs.Settings.{Setting, first_lone, is_given, is_lone, is_missing, needed, option_keys}
use Rattle.sv_arguments.specs.Values.{Finds}
use Rattle.sv_arguments.specs.declared.key.Key.{Key}
use Rattle.sv_arguments.specs.declared.key.Key.TheVariants.{AccessLog, AccessLogFormat, EndAllSessions, Method, Path, Sessions, SessionsEvery}
use Rattle.sv_arguments.specs.declared.option_set.OptionSet.{OptionSet}
use Rattle.sv_arguments.specs.declared.option_set.OptionSet.TheVariants.{Run, Audit}

none_some : (any : Key) → None ≡ Some any → ⊥
none_some any same = cc

pub same_some : (a b : Key) → Some a ≡ Some b → a ≡ b
same_some a b same = cc

both_hold : (one other : Bool) → one && other ≡ true → (one ≡ true) × (other ≡ true)
both_hold true true holds = (refl, refl)
both_hold true false holds = absurd (false≢true holds)
both_hold false other holds = absurd (false≢true holds)

not_false : (test : Bool) → not test ≡ true → test ≡ false
not_false true holds = absurd (false≢true holds)
not_false false holds = refl

-- the second holds only if the first does not
not_both : (one other : Bool) → not one && other ≡ false → other ≡ true → one ≡ true
not_both true other fails holds = refl
not_both false other fails holds = absurd (true≢false (sym holds ∙ fails))

-- an option that is found passes
module _ (p : Key → Bool) (key : Key) where
  found_passes : (first : Key) (keys : List Key) (test : Bool) → p first ≡ test → (find p keys ≡ Some key → p key ≡ true)
      → cond test (Some first) (find p keys) ≡ Some key → p key ≡ true
  found_passes first keys true is deeper found = sym (ap p (same_some first key found)) ∙ is
  found_passes first keys false is deeper found = deeper found

  finds_passing : (keys : List Key) → find p keys ≡ Some key → p key ≡ true
  finds_passing [] found = absurd (none_some key found)
  finds_passing (first ∷ keys) found = found_passes first keys (p first) refl (finds_passing keys) found

module _ (settings : List Setting) where
  -- an option that lacks another is given, and the other is not
  pub lone_is : (set : OptionSet) (key other : Key) → Lacks set settings key other
      → (is_given settings key ≡ true) × (is_given settings other ≡ false)
  lone_is set key other (first, needs) =
      let both = both_hold (is_missing settings (needed key)) (is_given settings key)
      (finds_passing (is_lone settings) key (option_keys set) first) in
      let Misses : Option Key → Type 0 = λ any. is_missing settings any ≡ true in
      (both.1, not_false (is_given settings other) (subst Misses needs both.0))

  -- a lone option needs another
  lone_needs : (key : Key) (need : Option Key) → needed key ≡ need → is_missing settings need ≡ true → (other : Key) × (needed key ≡ Some other)
  lone_needs key None is missing = absurd (false≢true missing)
  lone_needs key (Some other) is missing = (other, is)

  pub finds_lone : (set : OptionSet) (key other : Key) → first_lone set settings ≡ Some key → needed key ≡ Some other
      → Finds (IsLone set settings) (Some (key, other))
  finds_lone set key other first needs = ((first, needs), λ any lone. refl)

  pub finds_none_lone : (set : OptionSet) → first_lone set settings ≡ None → Finds (IsLone set settings) None
  finds_none_lone set none = (tt, λ any (first, needs). absurd (none_some any.0 (sym none ∙ first)))

  none_lone : (set : OptionSet) → Finds (IsLone set settings) None → (found : Option Key) → first_lone set settings ≡ found
      → first_lone set settings ≡ None
  none_lone set finds None is = is
  none_lone set finds (Some key) is =
      let both = both_hold (is_missing settings (needed key)) (is_given settings key)
      (finds_passing (is_lone settings) key (option_keys set) is) in
      let needs = lone_needs key (needed key) refl both.0 in
      absurd (false≢true (finds.1 (key, needs.0) (is, needs.1)))

  -- if none is without the one that it needs, that one is given
  pub needed_given : (set : OptionSet) → AreProper set settings → Finds (IsLone set settings) None → (key other : Key) → needed key ≡ Some other
      → is_given settings key ≡ true → is_given settings other ≡ true
  needed_given set proper finds key other needs given =
      let own = given_proper set key settings proper.0 given in
      let Listed : OptionSet → Type 0 = λ any. Contains (option_keys any) key in
      let fails : is_lone settings key ≡ false =
      All-contains (λ (k : Key). is_lone settings k ≡ false) (option_keys set) key
      (none_passes (is_lone settings) (option_keys set) (none_lone set finds (first_lone set settings) refl)) (subst Listed own (listed_key key)) in
      let Fails : Option Key → Type 0 = λ any. is_missing settings any && is_given settings key ≡ false in
      not_both (is_given settings other) (is_given settings key) (subst Fails needs fails) given

  -- the first lone option of each command
  abbrev pub lacks_one : Key → Key → Bool
  lacks_one key other = not (is_given settings other) && is_given settings key

  -- the first lone option of `run`, by what is lone
  run_lone : Bool → Bool → Bool → Option Key
  run_lone form every end = cond form (Some AccessLogFormat) (cond every (Some SessionsEvery) (cond end (Some EndAllSessions) None))

  pub lone_format : lacks_one AccessLogFormat AccessLog ≡ true → first_lone Run settings ≡ Some AccessLogFormat
  unfolding run_lone
  lone_format holds = ap (λ (test : Bool). run_lone test (lacks_one SessionsEvery Sessions) (lacks_one EndAllSessions Sessions)) holds

  pub lone_every : lacks_one AccessLogFormat AccessLog ≡ false → lacks_one SessionsEvery Sessions ≡ true
      → first_lone Run settings ≡ Some SessionsEvery
  unfolding run_lone
  lone_every first holds =
      ap (λ (test : Bool). run_lone test (lacks_one SessionsEvery Sessions) (lacks_one EndAllSessions Sessions)) first
      ∙ ap (λ (test : Bool). run_lone false test (lacks_one EndAllSessions Sessions)) holds

  -- no option before the last is lone
  before_end : lacks_one AccessLogFormat AccessLog ≡ false → lacks_one SessionsEvery Sessions ≡ false
      → first_lone Run settings ≡ run_lone false false (lacks_one EndAllSessions Sessions)
  unfolding run_lone
  before_end first second =
      ap (λ (test : Bool). run_lone test (lacks_one SessionsEvery Sessions) (lacks_one EndAllSessions Sessions)) first
      ∙ ap (λ (test : Bool). run_lone false test (lacks_one EndAllSessions Sessions)) second

  pub lone_end : lacks_one AccessLogFormat AccessLog ≡ false → lacks_one SessionsEvery Sessions ≡ false
      → lacks_one EndAllSessions Sessions ≡ true → first_lone Run settings ≡ Some EndAllSessions
  unfolding run_lone
  lone_end first second holds = before_end first second ∙ ap (run_lone false false) holds

  pub none_of_run : lacks_one AccessLogFormat AccessLog ≡ false → lacks_one SessionsEvery Sessions ≡ false
      → lacks_one EndAllSessions Sessions ≡ false → first_lone Run settings ≡ None
  unfolding run_lone
  none_of_run first second third = before_end first second ∙ ap (run_lone false false) third

  pub lone_method : lacks_one Method Path ≡ true → first_lone Audit settings ≡ Some Method
  lone_method holds = ap (λ (test : Bool). cond test (Some Method) None) holds

  pub none_of_audit : lacks_one Method Path ≡ false → first_lone Audit settings ≡ None
  none_of_audit fails = ap (λ (test : Bool). cond test (Some Method) None) fails
