-- The constraints that are listed as covering.
use Rattle.std.proofs.Common.{◌≡◌, ℕ, Bool, true, false, not, ◌&&◌, ◌||◌, ◌==◌, List, [], ◌∷◌, length, map, Option, Some, None, refl, ap, ◌∙◌, cond}
use Rattle.std.specs.Prelude.{filter, is_none, unwrap_or}
use Rattle.std.specs.List.{list_any}
use Rattle.std.proofs.lemmas.List.Elements.{filter_agree}
use Rattle.sv_audit.proofs.Filters.{filter_map, filter_twice}
use Rattle.sv_constraints.specs.Covering.{covering, covers, covers_method, lists}
use Rattle.sv_constraints.specs.Decision.{why_of}
use Rattle.sv_constraints.specs.Verdict.{verdict_at, is_open, permits_plain, precludes, admits_caller}
use Rattle.sv_constraints.specs.declared.constraint.Collection.{Collection}
use Rattle.sv_constraints.specs.declared.constraint.Constraint.{Constraint}
use Rattle.sv_constraints.specs.declared.constraint.Rules.{Rules}
use Rattle.sv_constraints.specs.declared.owned_decision.OwnedDecision.{OwnedDecision}
use Rattle.sv_realm.specs.declared.caller.Caller.{Caller}
use Rattle.sv_explanation.specs.Laws.{covering_listed}
use Rattle.sv_explanation.specs.Listed.{has_pattern, listed_constraint, listed_on}
use Rattle.sv_explanation.specs.declared.site_context.SiteContext.{SiteContext}

-- Of two decisions at a pattern, either one is at the pattern.
either : (pattern : Option (List ℕ)) (b : Bool) (one other : OwnedDecision) → (why_of one).pattern ≡ pattern → (why_of other).pattern ≡ pattern
    → (why_of (cond b one other)).pattern ≡ pattern
either pattern true one other is same = is
either pattern false one other is same = same

-- The verdict at a pattern has this pattern.
pub at_pattern : (rules : Rules) (caller : Option Caller) (pattern : Option (List ℕ)) (members : List Constraint)
    → (why_of (verdict_at rules caller pattern members)).pattern ≡ pattern
at_pattern rules caller pattern members =
    either pattern (is_none pattern) _ _ refl
    (either pattern (length members == 0) _ _ (either pattern rules.deny_uncovered _ _ refl refl)
    (either pattern (list_any precludes members) _ _ refl
    (either pattern (not (list_any permits_plain members)) _ _ refl
    (either pattern (list_any is_open members) _ _ refl
    (either pattern (is_none caller) _ _ refl
    (either pattern (list_any (admits_caller rules caller) members) _ _ refl refl))))))

-- If some item passes two tests, some item passes the first.
one_more : (a b rest both : Bool) → (rest && both) ≡ both → ((a || rest) && ((a && b) || both)) ≡ ((a && b) || both)
one_more true true rest both is = refl
one_more true false rest both is = refl
one_more false b rest both is = is

any_both : {A : Type 0} (p q : A → Bool) (xs : List A) → (list_any p xs && list_any (λ x. p x && q x) xs) ≡ list_any (λ x. p x && q x) xs
any_both p q [] = refl
any_both p q (x ∷ xs) = one_more (p x) (q x) (list_any p xs) (list_any (λ y. p y && q y) xs) (any_both p q xs)

-- A constraint that covers a method at a pattern has the pattern.
covers_there : (pattern method : List ℕ) (constraint : Constraint) → (has_pattern pattern constraint && covers constraint pattern method) ≡ covers constraint pattern method
covers_there pattern method constraint =
    any_both (λ (collection : Collection). lists collection.patterns pattern) (λ collection. covers_method collection.methods method) constraint.collections

-- The constraints that are listed as covering are those that cover the method at the pattern.
pub listed_exactly : (context : SiteContext) (method : List ℕ) (pattern : Option (List ℕ))
    → covering_listed (listed_on context pattern method)
    ≡ map (listed_constraint context (unwrap_or pattern []) method) (covering context.constraints pattern method)
listed_exactly context method None = refl
listed_exactly context method (Some pattern) =
    filter_map (listed_constraint context pattern method) (λ listed. listed.is_covering) (filter (has_pattern pattern) context.constraints)
    ∙ ap (map (listed_constraint context pattern method)) (
    filter_twice (λ constraint. covers constraint pattern method) (has_pattern pattern) context.constraints
    ∙ filter_agree _ _ (covers_there pattern method) context.constraints
    )
