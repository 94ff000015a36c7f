use Rattle.std.proofs.Common.{◌≡◌, ◌⊎◌, ℕ, List, [], ◌∷◌, Result, Ok, Err, refl, sym, ap, ◌∙◌, inl, inr}
use Rattle.std.specs.Prelude.{fold}
use Rattle.sv_constraints.specs.declared.constraint.Constraint.{Constraint}
use Rattle.sv_policy.specs.Compiled.{Standing}
use Rattle.sv_policy.specs.Edits.{GivesOutcome}
use Rattle.sv_policy.specs.Resuming.{Resumes, append_next, left_by_append}
use Rattle.sv_policy.specs.declared.edit_fault.EditFault.{EditFault}
use Rattle.sv_policy.specs.declared.edit_fault.EditFault.TheVariants.{NoMemory}

-- After a fault, nothing is appended any more.
stays_refused : (fault : EditFault) (constraints : List Constraint) → fold append_next (Err fault) constraints ≡ Err fault
stays_refused fault [] = refl
stays_refused fault (constraint ∷ constraints) = stays_refused fault constraints

fault_in : {A : Type 0} → EditFault → Result A EditFault → EditFault
fault_in other (Ok value) = other
fault_in other (Err fault) = fault

-- A refused append has the fault of its outcome, unless memory ran out.
refused_so : (before after : Standing) (fault : EditFault) (outcome : Result (ℕ × Standing) EditFault)
    → GivesOutcome before after (Err fault) outcome → (left_by_append outcome ≡ Err fault) ⊎ (fault ≡ NoMemory)
unfolding fault_in
refused_so before after fault (Ok done) gives = inr gives.0
refused_so before after fault (Err other) gives = inl (ap Err (sym (ap (fault_in fault) gives.0)))

-- So have all appends of which one was refused.
pub refused_among : (before after : Standing) (fault : EditFault) (outcome : Result (ℕ × Standing) EditFault) (all : Result Standing EditFault)
    (constraints : List Constraint) → fold append_next (left_by_append outcome) constraints ≡ all
    → GivesOutcome before after (Err fault) outcome → Resumes all (Err fault)
refused_among before after fault outcome all constraints are gives =
    elim (refused_so before after fault outcome gives) [
      | inl refused ↦ inl (sym (stays_refused fault constraints) ∙ ap (λ first. fold append_next first constraints) (sym refused) ∙ are)
      | inr spent ↦ inr (ap Err spent)
    ]
