-- What visitors meet, in a context with or without a login configuration (Jakarta Servlet 6.0, sections 13.6 and 13.8).
use Rattle.std.specs.Prelude.{◌≡◌, ◌≢◌, ℕ, Bool, true, false, not, ◌&&◌, ◌||◌, List, [], Option, None, IsTrue, if◌then◌else◌}
use Rattle.std.specs.List.{list_all}
use Rattle.sv_realm.specs.declared.caller.Caller.{Caller}
use Rattle.sv_constraints.specs.Covering.{lists}
use Rattle.sv_audit.specs.Callers.{is_open, same_callers}
use Rattle.sv_audit.specs.Reading.{Kind, Passes, NeedsLogin, IsDenied, said_to}
use Rattle.sv_audit.specs.declared.access.Access.{Access}
use Rattle.sv_audit.specs.declared.access.Access.TheVariants.{AnyLogin, Precluded, Roles}
use Rattle.sv_audit.specs.declared.visitors.DifferenceKind.{DifferenceKind}
use Rattle.sv_audit.specs.declared.visitors.DifferenceKind.TheVariants.{Changed, Closed, Opened}

-- The caller that a context knows: none if it has no login configuration, since nobody can log in.
abbrev pub known : Bool → Option Caller → Option Caller
known has_login visitor = if has_login then visitor else None

-- Without a login configuration, a request that needs a login is denied.
abbrev pub answered : Bool → Kind → Kind
answered true kind = kind
answered false Passes = Passes
answered false NeedsLogin = IsDenied
answered false IsDenied = IsDenied

-- The fate of a visitor's request, by what is decided for each caller. A visitor is a caller who logs in wherever the
-- context has a login configuration, or one who cannot log in.
abbrev pub fate : Bool → (Option Caller → Kind) → Option Caller → Kind
fate has_login decided visitor = answered has_login (decided (known has_login visitor))

abbrev pub decided_by : Access → Option Caller → Kind
decided_by access caller = (said_to caller access).0

-- Whether only callers pass.
abbrev pub needs_login : Access → Bool
needs_login AnyLogin = true
needs_login (Roles names) = true
needs_login access = false

-- The access itself, or one of nobody if it needs a login and there is none.
abbrev pub effective : Bool → Access → Access
effective has_login access = if has_login || not (needs_login access) then access else Precluded

abbrev pub is_any_login : Access → Bool
is_any_login AnyLogin = true
is_any_login access = false

-- The roles that an access admits.
abbrev pub roles_in : Access → List (List ℕ)
roles_in (Roles names) = names
roles_in access = []

-- Whether callers pass after and not before: all of them, or those with some role.
abbrev pub lets_callers_in : Access → Access → Bool
lets_callers_in before after = not (is_any_login before) && (is_any_login after || not (list_all (lists (roles_in before)) (roles_in after)))

-- Whether some visitor passes after and not before.
abbrev pub lets_in : Access → Access → Bool
lets_in before after = not (is_open before) && (is_open after || lets_callers_in before after)

-- How an access differs from the one before.
abbrev pub kind_of : Access → Access → DifferenceKind
kind_of before after = if lets_in before after then Opened else if lets_in after before then Closed else Changed

-- The effective access decides the fate of every visitor.
abbrev pub EffectiveIsMet : Type 0
EffectiveIsMet = (has_login : Bool) (access : Access) (visitor : Option Caller) → fate has_login (decided_by access) visitor ≡ decided_by (effective has_login access) visitor

-- Accesses have the same callers exactly if they decide alike for every visitor.
abbrev pub SameCallersAreExact : Type 0
SameCallersAreExact = (before after : Access) →
    (IsTrue (same_callers before after) → (visitor : Option Caller) → decided_by before visitor ≡ decided_by after visitor)
    × (IsTrue (not (same_callers before after)) → (visitor : Option Caller) × (decided_by before visitor ≢ decided_by after visitor))

-- An access lets others in exactly if some visitor passes by it and not by the one before.
abbrev pub LettingInIsExact : Type 0
LettingInIsExact = (before after : Access) →
    (IsTrue (lets_in before after) → (visitor : Option Caller) × (decided_by before visitor ≢ Passes) × (decided_by after visitor ≡ Passes))
    × (IsTrue (not (lets_in before after)) → (visitor : Option Caller) → decided_by after visitor ≡ Passes → decided_by before visitor ≡ Passes)
