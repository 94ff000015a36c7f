-- Appending and withdrawing constraints (Jakarta Servlet 6.0, section 13.8).
use Rattle.std.specs.Prelude.{◌≡◌, ℕ, ◌+◌, ◌-◌, ◌^◌, Bool, ◌||◌, nat_le, nat_lt, ◌==◌, List, [], ◌∷◌, ◌++◌, length, min, find, fold, Option, None, Some, MatchResult, Result, Ok, Err}
use Rattle.std.specs.List.{position, position_or_len, remove}
use Rattle.sv_constraints.specs.declared.constraint.Collection.{Collection}
use Rattle.sv_constraints.specs.declared.constraint.Constraint.{Constraint}
use Rattle.sv_policy.specs.Compiled.{Standing}
use Rattle.sv_policy.specs.Patterns.{different, listed_in}
use Rattle.sv_policy.specs.declared.edit.Edit.{Edit}
use Rattle.sv_policy.specs.declared.edit.Edit.TheVariants.{Append, Withdraw}
use Rattle.sv_policy.specs.declared.edit.NewConstraint.{NewConstraint}
use Rattle.sv_policy.specs.declared.edit_fault.EditFault.{EditFault}
use Rattle.sv_policy.specs.declared.edit_fault.EditFault.TheVariants.{NoSuch, TooMany, NumberSpent, NoMemory}
use Rattle.sv_constraints.specs.declared.constraint.TheConstants.{MAX_PATTERNS_OF_CONSTRAINT}
use Rattle.sv_policy.specs.declared.edit.TheConstants.{MAX_CONSTRAINTS}
use Rattle.sv_text.specs.Faults.{first_or, when}

abbrev pub greatest_count : ℕ
greatest_count = 2 ^ 64 - 1

-- The count plus the different patterns of an edited constraint, up to the greatest count.
abbrev pub counted : ℕ → List Collection → ℕ
counted rebuilt collections = min (rebuilt + length (different (listed_in collections))) greatest_count

-- Whether collections list more patterns than a new constraint may, with repeated ones counted each time.
abbrev pub lists_too_many : List Collection → Bool
lists_too_many collections = nat_lt MAX_PATTERNS_OF_CONSTRAINT (length (listed_in collections))

-- Whether there is no room for another constraint, or a constraint with these collections lists too many patterns.
abbrev pub is_too_many : List Constraint → List Collection → Bool
is_too_many constraints collections = nat_le MAX_CONSTRAINTS (length constraints) || lists_too_many collections

-- The constraint with its number.
abbrev pub numbered : NewConstraint → ℕ → Constraint
numbered addition number = record { number = number; collections = addition.collections; auth = addition.auth; transport = addition.transport }

-- The state after a constraint is appended.
abbrev pub with_last : Standing → Constraint → Standing
with_last standing added = record {
  constraints = standing.constraints ++ added ∷ [];
  rules = standing.rules;
  greatest = added.number;
  rebuilt = counted standing.rebuilt added.collections;
}

-- The new constraint gets the number after the greatest one assigned so far.
abbrev pub appended : Standing → NewConstraint → Standing
appended standing addition = with_last standing (numbered addition (standing.greatest + 1))

-- Appending, given the tests of the faults: a fault, or the assigned number and the new state.
abbrev pub append_judged : Standing → NewConstraint → Bool → Bool → Result (ℕ × Standing) EditFault
append_judged standing addition many spent = first_or (when many TooMany ++ when spent NumberSpent) (standing.greatest + 1, appended standing addition)

abbrev pub append_outcome : Standing → NewConstraint → Result (ℕ × Standing) EditFault
append_outcome standing addition = append_judged standing addition (is_too_many standing.constraints addition.collections) (standing.greatest == greatest_count)

-- Whether the constraint has the number.
abbrev pub has_number : ℕ → Constraint → Bool
has_number number constraint = constraint.number == number

-- The index of the first constraint with this number.
abbrev pub place_of : List Constraint → ℕ → Option ℕ
place_of constraints number = position (has_number number) constraints

-- The state after the constraint at an index is removed. Its number is not assigned again.
abbrev pub without_place : Standing → ℕ → Constraint → Standing
without_place standing place withdrawn = record {
  constraints = remove standing.constraints place;
  rules = standing.rules;
  greatest = standing.greatest;
  rebuilt = counted standing.rebuilt withdrawn.collections;
}

-- Withdrawing the constraint at an index, if there is one.
abbrev pub withdrawal : Standing → ℕ → Option Constraint → Result (Constraint × Standing) EditFault
withdrawal standing place None = Err NoSuch
withdrawal standing place (Some withdrawn) = Ok (withdrawn, without_place standing place withdrawn)

-- Withdrawing the first constraint with this number: a fault, or the constraint and the new state.
abbrev pub withdraw_outcome : Standing → ℕ → Result (Constraint × Standing) EditFault
withdraw_outcome standing number = withdrawal standing (position_or_len (has_number number) standing.constraints) (find (has_number number) standing.constraints)

-- A call has this outcome: the fault with the state unchanged, or the answer and the new state. Instead of succeeding,
-- it may run out of memory with the state unchanged.
abbrev pub GivesOutcome : {A : Type 0} → Standing → Standing → Result A EditFault → Result (A × Standing) EditFault → Type 0
GivesOutcome old new result (Err fault) = (result ≡ Err fault) × (new ≡ old)
GivesOutcome old new result (Ok done) = MatchResult result (λ answer. (answer ≡ done.0) × (new ≡ done.1)) (λ fault. (fault ≡ NoMemory) × (new ≡ old))

-- The outcome of an edit, with the number that is assigned or withdrawn.
abbrev pub numbered_outcome : ℕ → Result (Constraint × Standing) EditFault → Result (ℕ × Standing) EditFault
numbered_outcome number (Ok done) = Ok (number, done.1)
numbered_outcome number (Err fault) = Err fault

abbrev pub edit_outcome : Standing → Edit → Result (ℕ × Standing) EditFault
edit_outcome standing (Append addition) = append_outcome standing addition
edit_outcome standing (Withdraw number) = numbered_outcome number (withdraw_outcome standing number)

-- The state after an edit. A refused edit changes nothing.
abbrev pub standing_after : Standing → Result (ℕ × Standing) EditFault → Standing
standing_after standing (Ok done) = done.1
standing_after standing (Err fault) = standing

abbrev pub edited : Standing → Edit → Standing
edited standing edit = standing_after standing (edit_outcome standing edit)

-- The state after edits, applied in order.
abbrev pub edited_all : Standing → List Edit → Standing
edited_all standing edits = fold edited standing edits
