-- If each request has the same outcome, nothing differs by the report.
use Rattle.std.proofs.lemmas.Bool.{and_from, and_parts, false_from_ne_true, false≢true, not_from_false, or_left}
use Rattle.std.proofs.lemmas.List.Elements.{All-map}
use Rattle.std.proofs.lemmas.Slice.Eq.{bytes_eq-Decides}
use Rattle.std.proofs.lemmas.Str.{IsUtf8-nil, is_utf8-from_IsUtf8}
use Rattle.std.proofs.Common.{◌≡◌, ◌<◌, ℕ, Bool, true, false, ◌&&◌, List, [], ◌∷◌, ◌++◌, length, length-append, refl, ap, sym, ◌∙◌, arith, cond, codes, inl, inr, ltb-true, Option, None, Some, is_none, is_some, Ok}
use Rattle.std.specs.Prelude.{filter, nat_lt}
use Rattle.std.specs.Option.{option_map, option_map_or}
use Rattle.percent_encoding.proofs.PercentLemmas.{percent_decode-nil}
use Rattle.sv_mapping.specs.Chosen.{IsUnique, is_chosen}
use Rattle.sv_mapping.specs.Pattern.{is_at_or_below}
use Rattle.sv_mapping.specs.Protected.{is_protected}
use Rattle.sv_mapping.specs.Within.{path_within}
use Rattle.sv_mapping.proofs.Tried.{In, In-cases}
use Rattle.sv_realm.specs.declared.caller.Caller.{Caller}
use Rattle.sv_constraints.specs.Covering.{lists}
use Rattle.sv_policy.proofs.Best.{found_in}
use Rattle.sv_uri.specs.Canonical.{canonical}
use Rattle.sv_uri.specs.declared.path.Canon.{Canon}
use Rattle.sv_audit.proofs.Members.{all_from, found_any, kept_in}
use Rattle.sv_audit.proofs.Represented.{listed_in}
use Rattle.sv_findings.specs.Reach.{chosen_path}
use Rattle.sv_difference.proofs.ExampleLemmas.{none_at}
use Rattle.sv_difference.proofs.ServerLemmas.{listed_at, logins_change}
use Rattle.sv_difference.proofs.ShownLemmas.{chosen_of, under}
use Rattle.sv_difference.specs.DifferenceLaws.{DifferencesAreRight}
use Rattle.sv_difference.specs.ExampleLaws.{HaveContextPaths, IsContextPath, IsNamed, IsRoot, SameOutcomesAreUnchanged}
use Rattle.sv_difference.specs.ServerDifference.{compared_paths, context_at, difference_at, paths_of, shown_side}
use Rattle.sv_difference.specs.ServerLaws.{HasFate, HaveSameOutcomes, HaveUrlPatterns, IsHidden, IsUnchanged, LoginTest, LogsIn, NoContext, Outcome, outcome, outcome_at, outcome_in}
use Rattle.sv_difference.specs.declared.contexts.ComparedContext.{ComparedContext}

-- ---- The context of an outcome.
abbrev place_of : Outcome → Option (List ℕ)
place_of NoContext = None
place_of (LogsIn its_path) = Some its_path
place_of (IsHidden its_path) = Some its_path
place_of (HasFate its_path kind) = Some its_path

placed : (logs hidden : Bool) (its_path : List ℕ) (answer : Outcome) → place_of answer ≡ Some its_path → place_of (cond logs (LogsIn its_path) (cond hidden (IsHidden its_path) answer)) ≡ Some its_path
placed true hidden its_path answer is = refl
placed false true its_path answer is = refl
placed false false its_path answer is = is

module _ (logs_in : LoginTest) (contexts : List ComparedContext) (method path : List ℕ) (visitor : Option Caller) where
  placed_in : (its_path : List ℕ) → lists (paths_of contexts) its_path ≡ true → place_of (outcome_at logs_in contexts method path visitor its_path) ≡ Some its_path
  placed_in its_path there = go (context_at contexts its_path) refl
    where
      go : (found : Option ComparedContext) → context_at contexts its_path ≡ found → place_of (option_map_or (λ context. outcome_in logs_in context its_path method path visitor) found NoContext) ≡ Some its_path
      go None none = absurd (false≢true (sym (listed_at contexts its_path ∙ ap is_some none) ∙ there))
      go (Some context) is = placed (context.has_login && logs_in method path) (is_protected (path_within its_path path)) its_path _ refl

  -- The context of the outcome is the chosen one.
  place_is : place_of (outcome logs_in contexts method path visitor) ≡ chosen_path (paths_of contexts) path
  place_is = go (chosen_path (paths_of contexts) path) refl
    where
      go : (found : Option (List ℕ)) → chosen_path (paths_of contexts) path ≡ found → place_of (option_map_or (outcome_at logs_in contexts method path visitor) found NoContext) ≡ found
      go None none = refl
      go (Some its_path) is = placed_in its_path (found_in (is_chosen (paths_of contexts) path) (paths_of contexts) its_path is).1

-- ---- A request for each context.
root_given : canonical (codes "/") ≡ Ok (record { path = codes "/"; query = None })
root_given = rw (percent_decode-nil, is_utf8-from_IsUtf8 [] IsUtf8-nil) refl

record HasRequest (contexts : List (List ℕ)) (its_path : List ℕ) : Type 0 where
  target : List ℕ
  canon : Canon
  given : canonical target ≡ Ok canon
  chosen : chosen_path contexts canon.path ≡ Some its_path

chosen_if_none : (contexts : List (List ℕ)) (path its_path : List ℕ) → is_at_or_below its_path path ≡ true
    → ((other : List ℕ) → In other contexts → is_at_or_below other path ≡ true → nat_lt (length its_path) (length other) ≡ true → ⊥) → is_chosen contexts path its_path ≡ true
chosen_if_none contexts path its_path below never =
    and_from (is_at_or_below its_path path) _ below
    (not_from_false _ (false_from_ne_true _ (λ some.
    let other = found_any (λ one. is_at_or_below one path && nat_lt (length its_path) (length one)) contexts some in
    let parts = and_parts (is_at_or_below other.0 path) (nat_lt (length its_path) (length other.0)) other.2 in
    never other.0 other.1 parts.0 parts.1)))

-- A path above the path is no longer.
no_longer : (path other : List ℕ) → is_at_or_below other path ≡ true → nat_lt (length path) (length other) ≡ true → ⊥
no_longer path other below longer =
    let at = under other path below in
    absurd (omega (arith, ltb-true (length path) (length other) longer, ap length at.1, length-append path (47 ∷ []), length-append other (47 ∷ at.0)))

-- Only `/` is a longer path at or above `/` than that of the root.
root_above : (other : List ℕ) → is_at_or_below other (codes "/") ≡ true → nat_lt 0 (length other) ≡ true → other ≡ codes "/"
root_above other below longer = let at = under other (codes "/") below in go other at.0 at.1 (ltb-true 0 (length other) longer)
  where
    go : (text rest : List ℕ) → 47 ∷ 47 ∷ [] ≡ text ++ 47 ∷ rest → 0 < length text → text ≡ codes "/"
    go [] rest is some = absurd (omega (arith, some))
    go (b ∷ []) rest is some = let first : b ≡ 47 = cc in ap (λ x. x ∷ []) first
    go (b ∷ c ∷ text) rest is some = absurd (omega (arith, ap length is, length-append (b ∷ c ∷ text) (47 ∷ rest)))

not_root : (path : List ℕ) → IsContextPath path → path ≡ codes "/" → ⊥
not_root path (IsRoot none) is = absurd (omega (arith, ap length none, ap length is))
not_root path (IsNamed target canon given same open_end) is = open_end [] is

has_request : IsUnique → (contexts : List (List ℕ)) → ((path : List ℕ) → lists contexts path ≡ true → IsContextPath path) → (its_path : List ℕ) → lists contexts its_path ≡ true → HasRequest contexts its_path
has_request unique contexts are its_path there = go (are its_path there)
  where
    go : IsContextPath its_path → HasRequest contexts its_path
    go (IsRoot none) = record {
      target = codes "/";
      canon = record { path = codes "/"; query = None };
      given = root_given;
      chosen = chosen_of unique contexts (codes "/") its_path there
          (chosen_if_none contexts (codes "/") its_path (ap (λ path. is_at_or_below path (codes "/")) none)
          (λ other is_in below longer. not_root other (are other (listed_in contexts other is_in)) (root_above other below (ap (λ path. nat_lt (length path) (length other)) (sym none) ∙ longer))));
    }
    go (IsNamed target canon given same open_end) = record {
      target = target;
      canon = canon;
      given = given;
      chosen = ap (chosen_path contexts) same ∙ chosen_of unique contexts its_path its_path there
          (chosen_if_none contexts its_path its_path (or_left _ _ ((bytes_eq-Decides its_path its_path).1 refl)) (λ other is_in below longer. no_longer its_path other below longer));
    }

-- ---- Nothing differs.
module _ (right : DifferencesAreRight) (unique : IsUnique) (befores afters : List ComparedContext) (befores_url : HaveUrlPatterns befores) (afters_url : HaveUrlPatterns afters)
    (befores_are : HaveContextPaths befores) (afters_are : HaveContextPaths afters) (same : HaveSameOutcomes befores afters) where
  -- Both servers choose the same context for a request.
  same_context : (target : List ℕ) (canon : Canon) → canonical target ≡ Ok canon → chosen_path (paths_of befores) canon.path ≡ chosen_path (paths_of afters) canon.path
  same_context target canon given =
      sym (place_is (λ method path. false) befores [] canon.path None)
      ∙ (ap place_of (same (λ method path. false) target canon [] None given) ∙ place_is (λ method path. false) afters [] canon.path None)

  module _ (its_path target : List ℕ) (canon : Canon) (given : canonical target ≡ Ok canon) (first : chosen_path (paths_of befores) canon.path ≡ Some its_path) (second : chosen_path (paths_of afters) canon.path ≡ Some its_path) where
    same_login : (before after : ComparedContext) → context_at befores its_path ≡ Some before → context_at afters its_path ≡ Some after → before.has_login ≡ after.has_login
    same_login before after at there = go before.has_login after.has_login refl refl
      where
        always : LoginTest
        always = λ method path. true

        answers : outcome always befores [] canon.path None ≡ outcome always afters [] canon.path None
        answers = same always target canon [] None given

        go : (one other : Bool) → before.has_login ≡ one → after.has_login ≡ other → one ≡ other
        go true true is was = refl
        go false false is was = refl
        go true false is was =
            let changes = logins_change befores afters its_path before after at there is was always [] canon.path None first second refl in
            absurd (changes.1 (sym answers ∙ changes.0))
        go false true is was =
            let changes = logins_change afters befores its_path after before there at was is always [] canon.path None second first refl in
            absurd (changes.1 (answers ∙ changes.0))

    unchanged_by : IsUnchanged (difference_at befores afters its_path)
    unchanged_by = go (context_at befores its_path) (context_at afters its_path) refl refl
      where
        go : (a b : Option ComparedContext) → context_at befores its_path ≡ a → context_at afters its_path ≡ b → IsUnchanged (difference_at befores afters its_path)
        go None b at there = absurd (false≢true (sym (listed_at befores its_path ∙ ap is_some at) ∙ (found_in (is_chosen (paths_of befores) canon.path) (paths_of befores) its_path first).1))
        go (Some before) None at there = absurd (false≢true (sym (listed_at afters its_path ∙ ap is_some there) ∙ (found_in (is_chosen (paths_of afters) canon.path) (paths_of afters) its_path second).1))
        go (Some before) (Some after) at there = record {
          one = shown_side before;
          other = shown_side after;
          was = ap (option_map shown_side) at;
          becomes = ap (option_map shown_side) there;
          login = same_login before after at there;
          none = none_at right befores afters befores_url afters_url same its_path;
        }

  unchanged_at : (path : List ℕ) → In path (compared_paths befores afters) → IsUnchanged (difference_at befores afters path)
  unchanged_at path is_in =
      elim (In-cases path (paths_of befores) (filter (λ one. is_none (context_at befores one)) (paths_of afters)) is_in) [
        | inl is_first ↦
            let request = has_request unique (paths_of befores) befores_are path (listed_in (paths_of befores) path is_first) in
            unchanged_by path request.target request.canon request.given request.chosen (sym (same_context request.target request.canon request.given) ∙ request.chosen)
        | inr is_second ↦
            let request = has_request unique (paths_of afters) afters_are path (listed_in (paths_of afters) path (kept_in (λ one. is_none (context_at befores one)) path (paths_of afters) is_second)) in
            unchanged_by path request.target request.canon request.given (same_context request.target request.canon request.given ∙ request.chosen) request.chosen
      ]

pub unchanged_if_same : DifferencesAreRight → IsUnique → SameOutcomesAreUnchanged
unchanged_if_same right unique befores afters befores_url afters_url befores_are afters_are same =
    All-map IsUnchanged (difference_at befores afters) (compared_paths befores afters)
    (all_from (λ path. IsUnchanged (difference_at befores afters path)) (compared_paths befores afters) (unchanged_at right unique befores afters befores_url afters_url befores_are afters_are same))
