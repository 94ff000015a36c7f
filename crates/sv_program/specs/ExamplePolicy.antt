-- The fixed policy of the command `first`.
use Rattle.std.specs.Prelude.{ℕ, Bool, List, [], ◌∷◌, codes}
use Rattle.sv_constraints.specs.declared.constraint.Constraint.{Constraint}
use Rattle.sv_constraints.specs.declared.constraint.Methods.{Methods}
use Rattle.sv_constraints.specs.declared.constraint.Methods.TheVariants.{All, Only}
use Rattle.sv_constraints.specs.declared.constraint.Auth.TheVariants.{Roles}
use Rattle.sv_constraints.specs.declared.constraint.Transport.TheVariants.{Absent}
use Rattle.sv_constraints.specs.declared.constraint.Rules.{Rules}

-- the constraint of this number that requires the role `manager` at one pattern, for these methods
abbrev pub constraint_on : ℕ → List ℕ → Methods → Constraint
constraint_on number pattern methods = record {
  number = number;
  collections = record { patterns = pattern ∷ []; methods = methods } ∷ [];
  auth = Roles (codes "manager" ∷ []);
  transport = Absent;
}

-- `manager` everywhere, and below `/pub/` for GET only
abbrev pub example_constraints : List Constraint
example_constraints = constraint_on 1 (codes "/*") All ∷ constraint_on 2 (codes "/pub/*") (Only (codes "GET" ∷ [])) ∷ []

-- no role is declared
abbrev pub example_rules : Bool → Rules
example_rules deny_uncovered = record { declared = []; deny_uncovered = deny_uncovered }
