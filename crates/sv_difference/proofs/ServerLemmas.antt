-- Servers answer alike if nothing differs by the report, and each reported difference changes outcomes.
use Rattle.std.proofs.lemmas.Bool.{false≢true}
use Rattle.std.proofs.Common.{◌≡◌, ℕ, Bool, true, false, ◌&&◌, ◌||◌, List, [], ◌∷◌, refl, ap, ap₂, sym, ◌∙◌, cond, Option, None, Some, is_none, is_some}
use Rattle.std.specs.Prelude.{◌≢◌, All}
use Rattle.std.specs.Option.{option_map_or}
use Rattle.std.specs.Str.{bytes_eq}
use Rattle.sv_mapping.specs.Protected.{is_protected}
use Rattle.sv_mapping.specs.Within.{path_within}
use Rattle.sv_mapping.proofs.Tried.{In}
use Rattle.sv_realm.specs.declared.caller.Caller.{Caller}
use Rattle.sv_constraints.specs.Covering.{lists}
use Rattle.sv_policy.specs.Patterns.{BestIsOfTexts}
use Rattle.sv_audit.proofs.Members.{all_from, in_along}
use Rattle.sv_audit.proofs.Represented.{in_listed}
use Rattle.sv_audit.specs.Configurations.{Configuration, HasUrlPatterns, fate_of}
use Rattle.sv_audit.specs.Reading.{Kind, Passes}
use Rattle.sv_findings.specs.Reach.{chosen_path}
use Rattle.sv_difference.proofs.DifferenceLemmas.{all_in}
use Rattle.sv_difference.proofs.DifferentCells.{best_url}
use Rattle.sv_difference.proofs.ShownLemmas.{HasShown, IsOnBoth, listed_left, listed_right, on_both, shown_rooted}
use Rattle.sv_difference.specs.DifferenceLaws.{DifferencesAreRight, HasRows, IsRight, differences_of, side_of}
use Rattle.sv_difference.specs.Differences.{patterns_of, row_path, url_patterns}
use Rattle.sv_difference.specs.ServerDifference.{context_at, difference_at, differences_between, paths_of}
use Rattle.sv_difference.specs.ServerLaws.{ChangesOutcomes, HasFate, HaveUrlPatterns, IsHidden, LoginTest, LoginsChangeOutcomes, LogsIn, NoContext, Outcome, ReportedDifferencesAreRight, configuration_of, outcome, outcome_at, outcome_in}
use Rattle.sv_difference.specs.ShownPaths.{shown_paths}
use Rattle.sv_difference.specs.declared.contexts.ComparedContext.{ComparedContext}
use Rattle.sv_difference.specs.declared.difference.Difference.{Difference}

-- ---- Options.
pub none_or_some : {X : Type 0} (from : Option X) → is_none from ≡ false → is_some from ≡ true
none_or_some None is = absurd (false≢true (sym is))
none_or_some (Some x) is = refl

-- ---- The contexts with a path.
pub listed_at : (contexts : List ComparedContext) (path : List ℕ) → lists (paths_of contexts) path ≡ is_some (context_at contexts path)
listed_at [] path = refl
listed_at (context ∷ contexts) path = go (bytes_eq context.path path) (listed_at contexts path)
  where
    go : (b : Bool) → lists (paths_of contexts) path ≡ is_some (context_at contexts path) → (b || lists (paths_of contexts) path) ≡ is_some (cond b (Some context) (context_at contexts path))
    go true below = refl
    go false below = below

-- ---- The differences of two contexts.
module _ (befores afters : List ComparedContext) (its_path : List ℕ) (before after : ComparedContext) (at : context_at befores its_path ≡ Some before) (there : context_at afters its_path ≡ Some after) where
  abbrev one : Configuration
  one = configuration_of before

  abbrev other : Configuration
  other = configuration_of after

  -- The patterns of both contexts, and the paths that requests have on both servers.
  abbrev pub its_patterns : List (List ℕ)
  its_patterns = patterns_of (side_of one) (side_of other)

  abbrev pub its_paths : List (List ℕ)
  its_paths = shown_paths (paths_of befores) (paths_of afters) its_path its_patterns

  pub are_found : (difference_at befores afters its_path).differences ≡ differences_of its_paths one other
  are_found = ap₂ (λ a b. differences_between befores afters its_path a b) at there

  -- A shown path with the best matches of a path has its rows.
  pub has_rows : BestIsOfTexts → HasUrlPatterns one → HasUrlPatterns other → (path : List ℕ) → HasShown (paths_of befores) (paths_of afters) its_path its_patterns path → HasRows its_paths one other path
  has_rows best_same one_url other_url path (shown, listed, same) = (
    shown,
    listed,
    sym (best_url one best_same one_url (row_path shown)) ∙ (same (url_patterns (side_of one).table.rows) (λ text in_first. listed_left (url_patterns (side_of one).table.rows) (url_patterns (side_of other).table.rows) text in_first) ∙ best_url one best_same one_url path),
    sym (best_url other best_same other_url (row_path shown)) ∙ (same (url_patterns (side_of other).table.rows) (λ text in_second. listed_right (url_patterns (side_of one).table.rows) (url_patterns (side_of other).table.rows) text in_second) ∙ best_url other best_same other_url path),
  )

-- ---- Each reported difference.
abbrev fate_in : Outcome → Kind
fate_in NoContext = Passes
fate_in (LogsIn its_path) = Passes
fate_in (IsHidden its_path) = Passes
fate_in (HasFate its_path kind) = kind

abbrev logs : Outcome → Bool
logs NoContext = false
logs (LogsIn its_path) = true
logs (IsHidden its_path) = false
logs (HasFate its_path kind) = false

no_login : (has_login : Bool) (its_path : List ℕ) (answer : Outcome) → cond (has_login && false) (LogsIn its_path) answer ≡ answer
no_login true its_path answer = refl
no_login false its_path answer = refl

module _ (logs_in : LoginTest) (contexts : List ComparedContext) (its_path : List ℕ) (context : ComparedContext) (method path : List ℕ) (visitor : Option Caller) (at : context_at contexts its_path ≡ Some context)
    (chosen : chosen_path (paths_of contexts) path ≡ Some its_path) where
  pub served : outcome logs_in contexts method path visitor ≡ outcome_in logs_in context its_path method path visitor
  served =
      ap (λ found. option_map_or (outcome_at logs_in contexts method path visitor) found NoContext) chosen
      ∙ ap (λ found. option_map_or (λ (it : ComparedContext). outcome_in logs_in it its_path method path visitor) found NoContext) at

  abbrev its_fate : Outcome
  its_fate = HasFate its_path (fate_of (configuration_of context) method (path_within its_path path) visitor)

  fated : is_protected (path_within its_path path) ≡ false → logs_in method path ≡ false → outcome logs_in contexts method path visitor ≡ its_fate
  fated shown decided =
      served ∙ (ap₂ (λ (logs hidden : Bool). cond (context.has_login && logs) (LogsIn its_path) (cond hidden (IsHidden its_path) its_fate)) decided shown ∙ no_login context.has_login its_path its_fate)

  logged_in : context.has_login ≡ true → logs_in method path ≡ true → outcome logs_in contexts method path visitor ≡ LogsIn its_path
  logged_in has_login logs = served ∙ ap₂ (λ (has logs : Bool). cond (has && logs) (LogsIn its_path) (cond (is_protected (path_within its_path path)) (IsHidden its_path) its_fate)) has_login logs

  not_logged_in : context.has_login ≡ false → outcome logs_in contexts method path visitor ≢ LogsIn its_path
  not_logged_in has_none same =
      false≢true
      (sym (elsewhere (is_protected (path_within its_path path)))
      ∙ ap logs (sym (served ∙ ap (λ (has : Bool). cond (has && logs_in method path) (LogsIn its_path) (cond (is_protected (path_within its_path path)) (IsHidden its_path) its_fate)) has_none) ∙ same))
    where
      elsewhere : (hidden : Bool) → logs (cond hidden (IsHidden its_path) its_fate) ≡ false
      elsewhere true = refl
      elsewhere false = refl

pub logins_change : LoginsChangeOutcomes
logins_change contexts others its_path context other at there has_login has_none logs_in method path visitor chosen taken logs =
    (logged_in logs_in contexts its_path context method path visitor at chosen has_login logs, not_logged_in logs_in others its_path other method path visitor there taken has_none)

module _ (right : DifferencesAreRight) (befores afters : List ComparedContext) (its_path : List ℕ) (before after : ComparedContext) (befores_url : HaveUrlPatterns befores) (afters_url : HaveUrlPatterns afters)
    (at : context_at befores its_path ≡ Some before) (there : context_at afters its_path ≡ Some after) where
  abbrev first_side : Configuration
  first_side = configuration_of before

  abbrev second_side : Configuration
  second_side = configuration_of after

  changes : (difference : Difference) → IsRight first_side second_side difference → ChangesOutcomes befores afters its_path first_side second_side difference
  changes difference is = (
    is.differs.0,
    λ logs_in method path request same.
        is.differs.1 method (path_within its_path path) request.is_of
        (ap fate_in
        (sym (fated logs_in befores its_path before method path is.differs.0 at request.chosen_before request.shown request.decided)
        ∙ (same ∙ fated logs_in afters its_path after method path is.differs.0 there request.chosen_after request.shown request.decided))),
  )

  -- Each difference is right, and at a shown path.
  there_at : (difference : Difference) → In difference (difference_at befores afters its_path).differences → IsRight first_side second_side difference × (lists (its_paths befores afters its_path before after at there) difference.path ≡ true)
  there_at difference found =
      let paths = its_paths befores afters its_path before after at there in
      all_in (λ one. IsRight first_side second_side one × (lists paths one.path ≡ true)) difference (differences_of paths first_side second_side)
      (right paths first_side second_side (shown_rooted (paths_of befores) (paths_of afters) its_path (its_patterns befores afters its_path before after at there)) (befores_url before its_path at) (afters_url after its_path there))
      (in_along (difference_at befores afters its_path).differences (differences_of paths first_side second_side) difference (are_found befores afters its_path before after at there) found)

  pub right_at : (difference : Difference) → In difference (difference_at befores afters its_path).differences → IsRight first_side second_side difference × ChangesOutcomes befores afters its_path first_side second_side difference
  right_at difference found = let is = there_at difference found in (is.0, changes difference is.0)

  -- Requests for the example of a difference are for both contexts.
  pub example_at : (difference : Difference) → In difference (difference_at befores afters its_path).differences → IsOnBoth (paths_of befores) (paths_of afters) its_path (its_patterns befores afters its_path before after at there) difference.path
  example_at difference found =
      on_both (paths_of befores) (paths_of afters) its_path (its_patterns befores afters its_path before after at there) difference.path
      (in_listed (its_paths befores afters its_path before after at there) difference.path (there_at difference found).1)

  all_right : All (λ difference. IsRight first_side second_side difference × ChangesOutcomes befores afters its_path first_side second_side difference) (difference_at befores afters its_path).differences
  all_right =
      all_from (λ difference. IsRight first_side second_side difference × ChangesOutcomes befores afters its_path first_side second_side difference) (difference_at befores afters its_path).differences right_at

pub reported_right : DifferencesAreRight → ReportedDifferencesAreRight
reported_right right befores afters path before after befores_url afters_url at there = all_right right befores afters path before after befores_url afters_url at there
