-- The constraints that may cover a method at a pattern: those that name it there, and those that cover methods that are not
-- named (Jakarta Servlet 6.0, section 13.8.1).
use Rattle.std.specs.Prelude.{◌≡◌, ℕ, List, [], ◌∷◌, filter, map, Option, None, Some, Vec, if◌then◌else◌, IsTrue}
use Rattle.std.specs.Borrow.{Bor}
use Rattle.std.proofs.Common.{Global}
use Rattle.std.specs.HashMap.{HashMap}
use Rattle.std.specs.List.{flat_map}
use Rattle.std.specs.Str.{bytes_eq}
use Rattle.sv_realm.specs.declared.caller.Caller.{Caller}
use Rattle.sv_constraints.specs.Covering.{covers, lists}
use Rattle.sv_constraints.specs.declared.constraint.Constraint.{Constraint}
use Rattle.sv_constraints.specs.declared.constraint.Rules.{Rules}
use Rattle.sv_policy.specs.Covering.{covers_unnamed, named_methods}
use Rattle.sv_policy.specs.Groups.{members_in}
use Rattle.sv_policy.specs.Uncovered.{rising}
use Rattle.sv_audit.specs.Access.{cell_for}
use Rattle.sv_audit.specs.declared.access.Access.{Access}
use Rattle.sv_audit.specs.declared.method_index.MethodIndex.{MethodIndex}
use Rattle.sv_audit.specs.declared.rows.NamedCell.{NamedCell}

-- The methods that the constraint may cover: all of them if it covers methods that are not named, or else those that it names.
abbrev pub names_at : List ℕ → List (List ℕ) → Constraint → List (List ℕ)
names_at pattern names constraint = if covers_unnamed constraint pattern then names else rising (named_methods (constraint ∷ []) pattern)

abbrev pub at_name : List ℕ → Constraint → List ℕ → List Constraint
at_name method constraint name = if bytes_eq method name then constraint ∷ [] else []

-- The constraints that may cover the method.
abbrev pub entries : List ℕ → List (List ℕ) → List Constraint → List ℕ → List Constraint
entries pattern names constraints method = flat_map (λ constraint. flat_map (at_name method constraint) (names_at pattern names constraint)) constraints

-- The entry of the method, or these constraints if there are no entries.
abbrev pub found_in : {S : Type 0} → Option (HashMap (Bor (List ℕ)) (Vec (Bor Constraint) Global) S) → List Constraint → List ℕ → List Constraint
found_in None constraints method = constraints
found_in (Some by_name) constraints method = members_in by_name method

-- Either there are no entries, or each method has its own.
abbrev pub AreEntries : {S : Type 0} → List ℕ → List (List ℕ) → List Constraint → Option (HashMap (Bor (List ℕ)) (Vec (Bor Constraint) Global) S) → Type 0
AreEntries pattern names constraints found = (method : List ℕ) → found_in found (entries pattern names constraints method) method ≡ entries pattern names constraints method

-- The constraints that may cover the method, by the index.
abbrev pub concerned : MethodIndex → List ℕ → List Constraint
concerned index method = found_in index.by_name (map (λ member. member.now) index.members.items) method

-- A method with the cell of these constraints.
abbrev pub indexed_cell : (Access → Option Caller) → MethodIndex → Rules → List ℕ → List ℕ → NamedCell
indexed_cell whose index rules pattern method = record { name = method; cell = cell_for whose rules (Some pattern) (filter (λ constraint. covers constraint pattern method) (concerned index method)) }

-- The methods are those that the constraints name at the pattern, and the constraints that cover one are found.
pub record IsIndexed (constraints : List Constraint) (pattern : List ℕ) (index : MethodIndex) : Type 0 where
  pub names : map (λ name. name.now) index.names.items ≡ rising (named_methods constraints pattern)
  pub members : (method : List ℕ) → IsTrue (lists (named_methods constraints pattern) method)
      → filter (λ constraint. covers constraint pattern method) (concerned index method) ≡ filter (λ constraint. covers constraint pattern method) constraints
