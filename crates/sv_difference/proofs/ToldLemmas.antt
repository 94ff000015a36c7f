-- A report tells of each request whose outcome differs between two servers.
use Rattle.std.proofs.lemmas.Bool.{and_from, and_parts, false_from_ne_true, false≢true, ltb-false, not-true, or_left, or_parts, or_right}
use Rattle.std.proofs.lemmas.List.Elements.{All-head, All-tail}
use Rattle.std.proofs.Common.{arith, ◌≡◌, ℕ, Bool, true, false, not, ◌&&◌, ◌||◌, List, [], ◌∷◌, length, refl, ap, ap₂, sym, ◌∙◌, cond, Option, None, Some, is_none, is_some}
use Rattle.std.specs.Prelude.{All, Ok, filter, nat_lt, option_and_then}
use Rattle.std.specs.List.{list_any}
use Rattle.std.specs.Option.{option_map, option_map_or}
use Rattle.sv_mapping.specs.Chosen.{IsFoundWhereServed, IsUnique, is_chosen}
use Rattle.sv_mapping.specs.Pattern.{is_at_or_below}
use Rattle.sv_mapping.specs.Protected.{is_protected}
use Rattle.sv_mapping.specs.Within.{path_within}
use Rattle.sv_mapping.proofs.Tried.{In, In-left, In-map, In-right}
use Rattle.sv_realm.specs.declared.caller.Caller.{Caller}
use Rattle.sv_constraints.specs.Covering.{covers_method, lists}
use Rattle.sv_policy.proofs.Best.{found_in}
use Rattle.sv_policy.specs.Patterns.{BestIsOfTexts}
use Rattle.sv_audit.proofs.Members.{any_found, in_kept}
use Rattle.sv_audit.proofs.NarrowerLemmas.{contains}
use Rattle.sv_audit.proofs.Represented.{in_listed}
use Rattle.sv_audit.specs.Configurations.{Configuration, HasUrlPatterns, best_of, fate_of}
use Rattle.sv_audit.specs.Examples.{CanonicalIsReadBack, is_read_back}
use Rattle.sv_audit.specs.Reading.{ServedPathsAreRooted, is_same}
use Rattle.sv_audit.specs.Representatives.{EachPathIsResembled}
use Rattle.sv_uri.specs.Canonical.{canonical}
use Rattle.sv_uri.specs.declared.path.Canon.{Canon}
use Rattle.sv_findings.specs.Reach.{chosen_path}
use Rattle.sv_difference.proofs.DifferenceLemmas.{decisions_apart, decisions_same, same_decision}
use Rattle.sv_difference.proofs.ServerLemmas.{are_found, has_rows, its_paths, its_patterns, listed_at, none_or_some}
use Rattle.sv_difference.proofs.ShownLemmas.{has_shown, serves_if, some_found}
use Rattle.sv_difference.specs.CompleteLaws.{ReportsAreComplete, can_log_in, has_request, logins_differ, one_serves, tells}
use Rattle.sv_difference.specs.DifferenceLaws.{DifferencesAreComplete, HasRows, differences_of, is_of}
use Rattle.sv_difference.specs.OpenedFirst.{is_lone}
use Rattle.sv_difference.specs.ServerDifference.{compared_paths, context_at, difference_at, paths_of, server_difference, shown_side}
use Rattle.sv_difference.specs.ServerLaws.{HasFate, HaveUrlPatterns, IsHidden, IsUnchanged, LoginTest, LogsIn, NoContext, Outcome, UnchangedHaveSameOutcomes, configuration_of, outcome, outcome_at, outcome_in}
use Rattle.sv_difference.specs.declared.contexts.ComparedContext.{ComparedContext}
use Rattle.sv_difference.specs.declared.contexts.ContextDifference.{ContextDifference}
use Rattle.sv_difference.specs.declared.contexts.ContextSide.{ContextSide}
use Rattle.sv_difference.specs.declared.difference.Difference.{Difference}

-- ---- Truth values, lists and options.
second_false : (a b : Bool) → a ≡ true → (a && b) ≡ false → b ≡ false
second_false true b is none = none
second_false false b is none = absurd (false≢true is)

and_false : (a b : Bool) → b ≡ false → (a && b) ≡ false
and_false true b none = none
and_false false b none = refl

equal_logins : (a b : Bool) → cond a (not b) b ≡ false → a ≡ b
equal_logins true true is = refl
equal_logins true false is = absurd (false≢true (sym is))
equal_logins false b is = sym is

alike : (a b : Bool) → a ≡ b → cond a (not b) b ≡ false
alike true true is = refl
alike true false is = absurd (false≢true (sym is))
alike false true is = absurd (false≢true is)
alike false false is = refl

none_in : {X : Type 0} (test : X → Bool) (x : X) (xs : List X) → In x xs → list_any test xs ≡ false → test x ≡ false
none_in test x xs there none = false_from_ne_true (test x) (λ passes. false≢true (sym none ∙ any_found test x xs there passes))

mapped_some : {X Y : Type 0} (f : X → Y) (from : Option X) → is_none (option_map f from) ≡ false → is_some from ≡ true
mapped_some f None is = absurd (false≢true (sym is))
mapped_some f (Some x) is = refl

same_length : (a b : ℕ) → nat_lt a b ≡ false → nat_lt b a ≡ false → a ≡ b
same_length a b less more = omega (arith, ltb-false a b less, ltb-false b a more)

lone_parts : (context : ContextDifference) → is_lone context ≡ false → (is_none context.before ≡ false) × (is_none context.after ≡ false)
unfolding is_lone
lone_parts context none = or_parts (is_none context.before) (is_none context.after) none

not_lone : (context : ContextDifference) → is_none context.before ≡ false → is_none context.after ≡ false → is_lone context ≡ false
unfolding is_lone
not_lone context before after = ap₂ (λ a b. a || b) before after

-- ---- The chosen context paths.
module _ (unique : IsUnique) (found : IsFoundWhereServed) (path : List ℕ) where
  chosen_parts : (contexts : List (List ℕ)) (its_path : List ℕ) → chosen_path contexts path ≡ Some its_path → (is_chosen contexts path its_path ≡ true) × (lists contexts its_path ≡ true)
  chosen_parts contexts its_path is = found_in (is_chosen contexts path) contexts its_path is

  below : (contexts : List (List ℕ)) (its_path : List ℕ) → chosen_path contexts path ≡ Some its_path → is_at_or_below its_path path ≡ true
  below contexts its_path is = (and_parts _ _ (chosen_parts contexts its_path is).0).0

  served : (contexts : List (List ℕ)) (its_path : List ℕ) → lists contexts its_path ≡ true → is_at_or_below its_path path ≡ true → is_some (chosen_path contexts path) ≡ true
  served contexts its_path there at =
      some_found (is_chosen contexts path) contexts ∙ (found contexts path ∙ any_found (λ context. is_at_or_below context path) its_path contexts (in_listed contexts its_path there) at)

  not_longer : (contexts : List (List ℕ)) (its_path other : List ℕ) → chosen_path contexts path ≡ Some its_path → lists contexts other ≡ true → is_at_or_below other path ≡ true → nat_lt (length its_path) (length other) ≡ false
  not_longer contexts its_path other is there at =
      second_false (is_at_or_below other path) (nat_lt (length its_path) (length other)) at
      (none_in (λ one. is_at_or_below one path && nat_lt (length its_path) (length one)) other contexts (in_listed contexts other there) (not-true _ (and_parts _ _ (chosen_parts contexts its_path is).0).1))

  module _ (firsts lasts : List (List ℕ)) (first_in : (its_path : List ℕ) → chosen_path firsts path ≡ Some its_path → lists lasts its_path ≡ true) (last_in : (its_path : List ℕ) → chosen_path lasts path ≡ Some its_path → lists firsts its_path ≡ true) where
    both : (a b : List ℕ) → chosen_path firsts path ≡ Some a → chosen_path lasts path ≡ Some b → a ≡ b
    both a b is was =
        let no_longer : List ℕ → ℕ → Bool = λ it most. not (list_any (λ other. is_at_or_below other path && nat_lt most (length other)) firsts) in
        let long : length b ≡ length a = sym (same_length (length a) (length b) (not_longer firsts a b is (last_in b was) (below lasts b was)) (not_longer lasts b a was (first_in a is) (below firsts a is))) in
        unique firsts path a b (contains firsts a (chosen_parts firsts a is).1) (contains firsts b (last_in b was)) (chosen_parts firsts a is).0
        (and_from (is_at_or_below b path) _ (below lasts b was) (ap (no_longer b) long ∙ (and_parts _ _ (chosen_parts firsts a is).0).1))

    -- The same path is chosen, if each server has the path that the other one chooses.
    same_path : chosen_path firsts path ≡ chosen_path lasts path
    same_path = go (chosen_path firsts path) (chosen_path lasts path) refl refl
      where
        go : (a b : Option (List ℕ)) → chosen_path firsts path ≡ a → chosen_path lasts path ≡ b → a ≡ b
        go None None is was = refl
        go None (Some b) is was = absurd (false≢true (sym (ap is_some is) ∙ served firsts b (last_in b was) (below lasts b was)))
        go (Some a) None is was = absurd (false≢true (sym (ap is_some was) ∙ served lasts a (first_in a is) (below firsts a is)))
        go (Some a) (Some b) is was = ap Some (both a b is was)

-- ---- A request of which the report does not tell.
module _ (complete : DifferencesAreComplete) (best_same : BestIsOfTexts) (reads : CanonicalIsReadBack) (resembled : EachPathIsResembled) (rooted : ServedPathsAreRooted) (unique : IsUnique) (found : IsFoundWhereServed) (befores afters : List ComparedContext)
    (befores_url : HaveUrlPatterns befores) (afters_url : HaveUrlPatterns afters) (logs_in : LoginTest) (target method path : List ℕ) (visitor : Option Caller) (canon : Canon) (given : canonical target ≡ Ok canon) (of : path ≡ canon.path)
    (untold : list_any (tells befores afters method path) (server_difference befores afters).contexts ≡ false) where
  abbrev firsts : List (List ℕ)
  firsts = paths_of befores

  abbrev lasts : List (List ℕ)
  lasts = paths_of afters

  in_first : (its_path : List ℕ) → lists firsts its_path ≡ true → In its_path (compared_paths befores afters)
  in_first its_path there = In-left its_path firsts (filter (λ it. is_none (context_at befores it)) lasts) (in_listed firsts its_path there)

  in_last : (its_path : List ℕ) → lists lasts its_path ≡ true → In its_path (compared_paths befores afters)
  in_last its_path there = go (is_none (context_at befores its_path)) refl
    where
      go : (none : Bool) → is_none (context_at befores its_path) ≡ none → In its_path (compared_paths befores afters)
      go true is =
          In-right its_path firsts (filter (λ it. is_none (context_at befores it)) lasts) (in_kept (λ it. is_none (context_at befores it)) its_path lasts (in_listed lasts its_path there) is)
      go false is = in_first its_path (listed_at befores its_path ∙ none_or_some (context_at befores its_path) is)

  module _ (its_path : List ℕ) (there : In its_path (compared_paths befores afters)) (serves : one_serves befores afters its_path path ≡ true) where
    abbrev its_context : ContextDifference
    its_context = difference_at befores afters its_path

    abbrev its_requests : Bool
    its_requests = list_any (has_request befores afters its_path method (path_within its_path path)) its_context.differences

    nothing : (is_lone its_context || (logins_differ its_context || its_requests)) ≡ false
    nothing =
        second_false (one_serves befores afters its_path path) _ serves
        (none_in (tells befores afters method path) its_context (server_difference befores afters).contexts (In-map (difference_at befores afters) its_path (compared_paths befores afters) there) untold)

    both_have : (is_some (context_at befores its_path) ≡ true) × (is_some (context_at afters its_path) ≡ true)
    both_have =
        let parts = lone_parts its_context (or_parts (is_lone its_context) _ nothing).0 in
        (mapped_some shown_side (context_at befores its_path) parts.0, mapped_some shown_side (context_at afters its_path) parts.1)

    quiet : (logins_differ its_context ≡ false) × (its_requests ≡ false)
    quiet = or_parts (logins_differ its_context) its_requests (or_parts (is_lone its_context) _ nothing).1

  first_serves : (its_path : List ℕ) → chosen_path firsts path ≡ Some its_path → one_serves befores afters its_path path ≡ true
  first_serves its_path is = or_left _ _ (serves_if firsts its_path path is)

  last_serves : (its_path : List ℕ) → chosen_path lasts path ≡ Some its_path → one_serves befores afters its_path path ≡ true
  last_serves its_path is = or_right _ _ (serves_if lasts its_path path is)

  same_chosen : chosen_path firsts path ≡ chosen_path lasts path
  same_chosen =
      same_path unique found path firsts lasts
      (λ its_path is. listed_at afters its_path ∙ (both_have its_path (in_first its_path (chosen_parts unique found path firsts its_path is).1) (first_serves its_path is)).1)
      (λ its_path is. listed_at befores its_path ∙ (both_have its_path (in_last its_path (chosen_parts unique found path lasts its_path is).1) (last_serves its_path is)).0)

  module _ (its_path : List ℕ) (before after : ComparedContext) (is_before : context_at befores its_path ≡ Some before) (is_after : context_at afters its_path ≡ Some after) (chosen : chosen_path firsts path ≡ Some its_path)
      (taken : chosen_path lasts path ≡ Some its_path) where
    abbrev within : List ℕ
    within = path_within its_path path

    abbrev first : Configuration
    first = configuration_of before

    abbrev second : Configuration
    second = configuration_of after

    abbrev paths : List (List ℕ)
    paths = its_paths befores afters its_path before after is_before is_after

    its_quiet : (logins_differ (difference_at befores afters its_path) ≡ false) × (its_requests its_path (in_first its_path (chosen_parts unique found path firsts its_path chosen).1) (first_serves its_path chosen) ≡ false)
    its_quiet = quiet its_path (in_first its_path (chosen_parts unique found path firsts its_path chosen).1) (first_serves its_path chosen)

    same_login : before.has_login ≡ after.has_login
    same_login =
        let logins : Option ComparedContext → Option ComparedContext → Bool = λ a b. cond (can_log_in (option_map shown_side a)) (not (can_log_in (option_map shown_side b))) (can_log_in (option_map shown_side b)) in
        equal_logins before.has_login after.has_login (ap₂ logins (sym is_before) (sym is_after) ∙ its_quiet.0)

    first_url : HasUrlPatterns first
    first_url = befores_url before its_path is_before

    second_url : HasUrlPatterns second
    second_url = afters_url after its_path is_after

    its_rows : is_protected within ≡ false → HasRows paths first second within
    its_rows unhidden =
        has_rows befores afters its_path before after is_before is_after best_same first_url second_url within
        (has_shown firsts lasts its_path (its_patterns befores afters its_path before after is_before is_after) resembled unique path (ap is_read_back of ∙ reads target canon given) chosen taken unhidden)

    -- The differences that have the request are those of its rows.
    no_request : list_any (is_of first second method within) (differences_of paths first second) ≡ false
    no_request =
        let best : Option ComparedContext → Option (List ℕ) = λ found. option_and_then (λ (it : ComparedContext). best_of (configuration_of it) within) found in
        let its : Option ComparedContext → Option ComparedContext → Difference → Bool = λ a b difference. is_same difference.before (best a) && is_same difference.after (best b) && covers_method difference.methods method in
        ap₂ (λ a b. list_any (its a b) (differences_of paths first second)) (sym is_before) (sym is_after)
        ∙ (ap (list_any (has_request befores afters its_path method within)) (sym (are_found befores afters its_path before after is_before is_after)) ∙ its_quiet.1)

    same_fate : is_protected within ≡ false → fate_of first method within visitor ≡ fate_of second method within visitor
    same_fate unhidden = go (same_decision (fate_of first method within visitor) (fate_of second method within visitor)) refl
      where
        go : (same : Bool) → same_decision (fate_of first method within visitor) (fate_of second method within visitor) ≡ same → fate_of first method within visitor ≡ fate_of second method within visitor
        go true is = decisions_same (fate_of first method within visitor) (fate_of second method within visitor) is
        go false is =
            absurd (false≢true
            (sym no_request
            ∙ complete paths first second method within visitor first_url second_url (rooted its_path path (below unique found path firsts its_path chosen)) (its_rows unhidden)
            (decisions_apart (fate_of first method within visitor) (fate_of second method within visitor) is)))

    same_answer : (hidden : Bool) → is_protected within ≡ hidden → cond hidden (IsHidden its_path) (HasFate its_path (fate_of first method within visitor)) ≡ cond hidden (IsHidden its_path) (HasFate its_path (fate_of second method within visitor))
    same_answer true is = refl
    same_answer false is = ap (HasFate its_path) (same_fate is)

    same_in : outcome_in logs_in before its_path method path visitor ≡ outcome_in logs_in after its_path method path visitor
    same_in = ap₂ (λ (has_login : Bool) (rest : Outcome). cond (has_login && logs_in method path) (LogsIn its_path) rest) same_login (same_answer (is_protected within) refl)

  same_at : (its_path : List ℕ) → chosen_path firsts path ≡ Some its_path → outcome_at logs_in befores method path visitor its_path ≡ outcome_at logs_in afters method path visitor its_path
  same_at its_path is = go (context_at befores its_path) (context_at afters its_path) refl refl
    where
      taken : chosen_path lasts path ≡ Some its_path
      taken = sym same_chosen ∙ is

      go : (a b : Option ComparedContext) → context_at befores its_path ≡ a → context_at afters its_path ≡ b
          → option_map_or (λ context. outcome_in logs_in context its_path method path visitor) a NoContext ≡ option_map_or (λ context. outcome_in logs_in context its_path method path visitor) b NoContext
      go None b is_before is_after = absurd (false≢true (sym (listed_at befores its_path ∙ ap is_some is_before) ∙ (chosen_parts unique found path firsts its_path is).1))
      go (Some before) None is_before is_after = absurd (false≢true (sym (listed_at afters its_path ∙ ap is_some is_after) ∙ (chosen_parts unique found path lasts its_path taken).1))
      go (Some before) (Some after) is_before is_after = same_in its_path before after is_before is_after is taken

  same_outcome : outcome logs_in befores method path visitor ≡ outcome logs_in afters method path visitor
  same_outcome =
      go (chosen_path firsts path) refl ∙ ap (λ chosen. option_map_or (outcome_at logs_in afters method path visitor) chosen NoContext) same_chosen
    where
      go : (chosen : Option (List ℕ)) → chosen_path firsts path ≡ chosen
          → option_map_or (outcome_at logs_in befores method path visitor) chosen NoContext ≡ option_map_or (outcome_at logs_in afters method path visitor) chosen NoContext
      go None is = refl
      go (Some its_path) is = same_at its_path is

pub all_told : DifferencesAreComplete → BestIsOfTexts → CanonicalIsReadBack → EachPathIsResembled → ServedPathsAreRooted → IsUnique → IsFoundWhereServed → ReportsAreComplete
all_told complete best_same reads resembled rooted unique found befores afters logs_in target canon method visitor befores_url afters_url given apart =
    go (list_any (tells befores afters method canon.path) (server_difference befores afters).contexts) refl
  where
    go : (told : Bool) → list_any (tells befores afters method canon.path) (server_difference befores afters).contexts ≡ told → told ≡ true
    go true is = refl
    go false is = absurd (apart (same_outcome complete best_same reads resembled rooted unique found befores afters befores_url afters_url logs_in target method canon.path visitor canon given refl is))

-- ---- If nothing differs by the report, it tells of no request.
module _ (befores afters : List ComparedContext) (method path : List ℕ) where
  quiet_at : (context : ContextDifference) → IsUnchanged context → tells befores afters method path context ≡ false
  quiet_at context its =
      let lone : is_lone context ≡ false = not_lone context (ap is_none its.was) (ap is_none its.becomes) in
      let logins : logins_differ context ≡ false = ap₂ (λ (a b : Option ContextSide). cond (can_log_in a) (not (can_log_in b)) (can_log_in b)) its.was its.becomes ∙ alike its.one.has_login its.other.has_login its.login in
      and_false (one_serves befores afters context.path path) _
      (ap₂ (λ a rest. a || rest) lone (ap₂ (λ a b. a || b) logins (ap (list_any (has_request befores afters context.path method (path_within context.path path))) its.none)))

  quiet_in : (contexts : List ContextDifference) → All IsUnchanged contexts → list_any (tells befores afters method path) contexts ≡ false
  quiet_in [] all = refl
  quiet_in (context ∷ contexts) all = ap₂ (λ a b. a || b) (quiet_at context (All-head IsUnchanged context contexts all)) (quiet_in contexts (All-tail IsUnchanged context contexts all))

pub same_outcomes : DifferencesAreComplete → BestIsOfTexts → CanonicalIsReadBack → EachPathIsResembled → ServedPathsAreRooted → IsUnique → IsFoundWhereServed → UnchangedHaveSameOutcomes
same_outcomes complete best_same reads resembled rooted unique found befores afters befores_url afters_url unchanged logs_in target canon method visitor given =
    same_outcome complete best_same reads resembled rooted unique found befores afters befores_url afters_url logs_in target method canon.path visitor canon given refl
    (quiet_in befores afters method canon.path (server_difference befores afters).contexts unchanged)
