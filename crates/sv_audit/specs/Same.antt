-- Equality of the cells of an access table.
use Rattle.std.specs.Prelude.{ℕ, Bool, true, false, ◌&&◌, ◌==◌, Option, None, Some}
use Rattle.sv_audit.specs.declared.access.Access.{Access}
use Rattle.sv_audit.specs.declared.access.Access.TheVariants.{Unconstrained, Uncovered, UncoveredDenied, Precluded, NeedsTls, Everyone, AnyLogin, Roles}
use Rattle.sv_audit.specs.declared.access.Cell.{Cell}
use Rattle.sv_policy.specs.Sameness.{same_texts}

-- Whether the numbers are equal, or there are none.
abbrev pub same_number : Option ℕ → Option ℕ → Bool
same_number None None = true
same_number (Some number) (Some other) = number == other
same_number number other = false

-- Whether the same callers may make both requests, for the same reason.
abbrev pub same_access : Access → Access → Bool
same_access Unconstrained Unconstrained = true
same_access Uncovered Uncovered = true
same_access UncoveredDenied UncoveredDenied = true
same_access Precluded Precluded = true
same_access NeedsTls NeedsTls = true
same_access Everyone Everyone = true
same_access AnyLogin AnyLogin = true
same_access (Roles roles) (Roles others) = same_texts roles others
same_access access other = false

-- Whether the cells are equal.
abbrev pub same_cell : Cell → Cell → Bool
same_cell cell other = same_access cell.access other.access && same_number cell.constraint other.constraint
