-- Which callers pass by an access (Jakarta Servlet 6.0, section 13.8).
use Rattle.std.specs.Prelude.{ℕ, Bool, true, false, ◌&&◌, ◌||◌, List}
use Rattle.std.specs.List.{list_all}
use Rattle.sv_constraints.specs.Covering.{covers_method, lists}
use Rattle.sv_audit.specs.declared.access.Access.{Access}
use Rattle.sv_audit.specs.declared.access.Access.TheVariants.{Unconstrained, Uncovered, UncoveredDenied, Precluded, NeedsTls, Everyone, AnyLogin, Roles}
use Rattle.sv_audit.specs.declared.rows.Group.{Group}

-- Whether everyone passes, without a caller.
abbrev pub is_open : Access → Bool
is_open Unconstrained = true
is_open Uncovered = true
is_open Everyone = true
is_open access = false

-- Whether nobody passes.
abbrev pub is_closed : Access → Bool
is_closed UncoveredDenied = true
is_closed Precluded = true
is_closed NeedsTls = true
is_closed access = false

-- Whether both lists have the same roles.
abbrev pub same_roles : List (List ℕ) → List (List ℕ) → Bool
same_roles names others = list_all (lists others) names && list_all (lists names) others

-- Whether both need a login, of the same callers.
abbrev pub same_logins : Access → Access → Bool
same_logins AnyLogin AnyLogin = true
same_logins (Roles names) (Roles others) = same_roles names others
same_logins access other = false

-- Whether the same callers pass.
abbrev pub same_callers : Access → Access → Bool
same_callers access other = is_open access && is_open other || is_closed access && is_closed other || same_logins access other

-- Whether the method is in the group.
abbrev pub has_method : List ℕ → Group → Bool
has_method method group = covers_method group.methods method
