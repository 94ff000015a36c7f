-- The constraints with which a context resumes (Jakarta Servlet 6.0, section 13.8).
use Rattle.std.specs.Prelude.{◌≡◌, ◌⊎◌, ℕ, nat_lt, List, filter, fold, max, Result, Ok, Err, if◌then◌else◌}
use Rattle.sv_constraints.specs.declared.constraint.Constraint.{Constraint}
use Rattle.sv_constraints.specs.declared.constraint.Rules.{Rules}
use Rattle.sv_policy.specs.Compiled.{Standing, compiled, greatest_number}
use Rattle.sv_policy.specs.Edits.{append_outcome}
use Rattle.sv_policy.specs.Sameness.{same_constraints}
use Rattle.sv_policy.specs.declared.edit.NewConstraint.{NewConstraint}
use Rattle.sv_policy.specs.declared.edit_fault.EditFault.{EditFault}
use Rattle.sv_policy.specs.declared.edit_fault.EditFault.TheVariants.{NoMemory}

-- The constraints that are left after edits, and the greatest number that was assigned.
abbrev pub compiled_after : List Constraint → Rules → ℕ → Standing
compiled_after constraints rules greatest = record (compiled constraints rules) { greatest = max greatest (greatest_number constraints) }

-- Those that edits appended: their numbers are above those of the declared ones.
abbrev pub appended_ones : List Constraint → List Constraint → List Constraint
appended_ones declared constraints = filter (λ constraint. nat_lt (greatest_number declared) constraint.number) constraints

-- A constraint without its number.
abbrev pub unnumbered : Constraint → NewConstraint
unnumbered constraint = record { collections = constraint.collections; auth = constraint.auth; transport = constraint.transport }

-- One more constraint is appended, unless an earlier one was refused.
abbrev pub left_by_append : Result (ℕ × Standing) EditFault → Result Standing EditFault
left_by_append (Ok done) = Ok done.1
left_by_append (Err fault) = Err fault

abbrev pub append_next : Result Standing EditFault → Constraint → Result Standing EditFault
append_next (Ok standing) constraint = left_by_append (append_outcome standing (unnumbered constraint))
append_next (Err fault) constraint = Err fault

-- Constraints are appended one after another.
abbrev pub append_each : Standing → List Constraint → Result Standing EditFault
append_each standing constraints = fold append_next (Ok standing) constraints

-- If the descriptor still declares the same constraints, those that edits left come back as they were. If it declares
-- others, these hold, and the ones that edits appended and left are appended to them.
abbrev pub resumption : List Constraint → Rules → List Constraint → List Constraint → ℕ → Result Standing EditFault
resumption declared rules earlier constraints greatest =
    if same_constraints declared earlier
    then Ok (compiled_after constraints rules greatest)
    else append_each (compiled declared rules) (appended_ones earlier constraints)

-- The result is this outcome, unless memory ran out.
abbrev pub Resumes : Result Standing EditFault → Result Standing EditFault → Type 0
Resumes outcome result = (result ≡ outcome) ⊎ (result ≡ Err NoMemory)
