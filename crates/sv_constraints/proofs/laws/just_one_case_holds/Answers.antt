use Rattle.std.proofs.Common.{◌≡◌, Bool, true, false, not, ◌&&◌, List, [], ◌∷◌, refl, ap}
use Rattle.std.specs.Prelude.{filter}
use Rattle.sv_constraints.specs.declared.owned_decision.OwnedDecision.{OwnedDecision}
use Rattle.sv_constraints.specs.declared.owned_decision.OwnedDecision.TheVariants.{Denied}
use Rattle.sv_constraints.specs.Verdict.{first_case, cases, because, least_number}
use Rattle.sv_constraints.specs.declared.cause.Cause.TheVariants.{NoRole}
use Rattle.sv_constraints.proofs.laws.just_one_case_holds.Goals as goal

-- The rows with their full conditions: `left` holds, the tests of all earlier rows fail, and the test of the row holds.
abbrev full : Bool → List (Bool × OwnedDecision) → OwnedDecision → List (Bool × OwnedDecision)
full left [] last = (left, last) ∷ []
full left (row ∷ rows) last = (left && row.0, row.1) ∷ full (left && not row.0) rows last

none_holds : (rows : List (Bool × OwnedDecision)) (last : OwnedDecision) → filter (λ row. row.0) (full false rows last) ≡ []
none_holds [] last = refl
none_holds (row ∷ rows) last = none_holds rows last

with_row : (holds : Bool) (verdict : OwnedDecision) (rows : List (Bool × OwnedDecision)) (last : OwnedDecision) → filter (λ row. row.0) (full true rows last) ≡ (true, first_case rows last) ∷ [] → filter (λ row. row.0) (full true ((holds, verdict) ∷ rows) last) ≡ (true, first_case ((holds, verdict) ∷ rows) last) ∷ []
with_row true verdict rows last below = ap (λ rest. (true, verdict) ∷ rest) (none_holds rows last)
with_row false verdict rows last below = below

one_holds : (rows : List (Bool × OwnedDecision)) (last : OwnedDecision) → filter (λ row. row.0) (full true rows last) ≡ (true, first_case rows last) ∷ []
one_holds [] last = refl
one_holds (row ∷ rows) last = with_row row.0 row.1 rows last (one_holds rows last)

pub returns : goal.returns
returns c = λ rules caller pattern members.
    one_holds (cases rules caller pattern members) (Denied (because pattern (least_number members) NoRole))
