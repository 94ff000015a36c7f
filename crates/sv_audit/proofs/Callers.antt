-- Kinds of access with different callers decide differently for a request without a caller, or for some caller.
use Rattle.std.proofs.lemmas.Bool.{false≢true}
use Rattle.std.proofs.lemmas.Slice.Eq.{bytes_eq-Decides}
use Rattle.std.proofs.Common.{◌≡◌, ℕ, Bool, true, false, not, ◌||◌, ◌&&◌, List, [], ◌∷◌, refl, ap, ap₂, sym, ◌∙◌, cond, Option, None, Some}
use Rattle.std.specs.Prelude.{◌≢◌}
use Rattle.std.specs.List.{list_all, list_any}
use Rattle.std.specs.Str.{bytes_eq}
use Rattle.sv_realm.specs.declared.caller.Caller.{Caller}
use Rattle.sv_constraints.specs.Covering.{lists}
use Rattle.sv_constraints.specs.declared.cause.Cause.{Cause}
use Rattle.sv_constraints.specs.declared.cause.Cause.TheVariants as cause
use Rattle.sv_policy.proofs.Best.{or_right}
use Rattle.sv_policy.proofs.Grouping.{or_none, turned}
use Rattle.sv_policy.proofs.Steps.{any_same}
use Rattle.sv_audit.specs.Callers.{is_closed, is_open, same_callers, same_logins}
use Rattle.sv_audit.specs.Reading.{Kind, Passes, NeedsLogin, IsDenied, said_to}
use Rattle.sv_audit.specs.declared.access.Access.{Access}
use Rattle.sv_audit.specs.declared.access.Access.TheVariants.{Unconstrained, Uncovered, UncoveredDenied, Precluded, NeedsTls, Everyone, AnyLogin, Roles}

abbrev pub passes : Kind → Bool
passes Passes = true
passes NeedsLogin = false
passes IsDenied = false

abbrev denies : Kind → Bool
denies Passes = false
denies NeedsLogin = false
denies IsDenied = true

-- The kind of a request without a caller.
abbrev pub alone : Access → Kind
alone access = (said_to None access).0

-- A caller who decides differently.
abbrev IsApart : Access → Access → Type 0
IsApart access other = (caller : Option Caller) × ((said_to caller access).0 ≢ (said_to caller other).0)

abbrev with_roles : List (List ℕ) → Option Caller
with_roles its_roles = Some (record { number = 0; name = []; roles = its_roles })

-- ---- Without a caller.
pub opens : (access : Access) → alone access ≡ Passes → is_open access ≡ true
opens Unconstrained is = refl
opens Uncovered is = refl
opens UncoveredDenied is = absurd (false≢true (ap passes is))
opens Precluded is = absurd (false≢true (ap passes is))
opens NeedsTls is = absurd (false≢true (ap passes is))
opens Everyone is = refl
opens AnyLogin is = absurd (false≢true (ap passes is))
opens (Roles names) is = absurd (false≢true (ap passes is))

closes : (access : Access) → alone access ≡ IsDenied → is_closed access ≡ true
closes Unconstrained is = absurd (false≢true (ap denies is))
closes Uncovered is = absurd (false≢true (ap denies is))
closes UncoveredDenied is = refl
closes Precluded is = refl
closes NeedsTls is = refl
closes Everyone is = absurd (false≢true (ap denies is))
closes AnyLogin is = absurd (false≢true (ap denies is))
closes (Roles names) is = absurd (false≢true (ap denies is))

-- ---- With a caller of some roles.
pub held : (role : List ℕ) (names : List (List ℕ)) → list_any (lists (role ∷ [])) names ≡ lists names role
held role names = any_same (lists (role ∷ [])) (λ listed. bytes_eq listed role) (λ name. or_none (bytes_eq role name) ∙ turned role name) names

pub none_held : (names : List (List ℕ)) → list_any (lists []) names ≡ false
none_held [] = refl
none_held (name ∷ names) = none_held names

abbrev pub by_holding : Bool → Kind
by_holding holds = (cond {A = Kind × Cause} holds (Passes, cause.Role) (IsDenied, cause.NoRole)).0

holding_differs : (first second : Bool) → first ≡ true → second ≡ false → by_holding first ≢ by_holding second
holding_differs first second holds lacks same = false≢true (sym (ap passes (ap by_holding (sym holds) ∙ same ∙ ap by_holding lacks)))

-- A role that is among the first texts only.
abbrev pub IsOutside : List (List ℕ) → List (List ℕ) → Type 0
IsOutside names others = (role : List ℕ) × (lists names role ≡ true) × (lists others role ≡ false)

outside_at : (others : List (List ℕ)) (name : List ℕ) (names : List (List ℕ)) (there : Bool) → lists others name ≡ there → (there && list_all (lists others) names) ≡ false → (list_all (lists others) names ≡ false → IsOutside names others) → IsOutside (name ∷ names) others
outside_at others name names true is fails below =
    let rest : IsOutside names others = below fails in
    (rest.0, or_right (bytes_eq name rest.0) (lists names rest.0) rest.1, rest.2)
outside_at others name names false is fails below = (name, ap (λ b. b || lists names name) ((bytes_eq-Decides name name).1 refl), is)

pub outside : (names others : List (List ℕ)) → list_all (lists others) names ≡ false → IsOutside names others
outside [] others fails = absurd (false≢true (sym fails))
outside (name ∷ names) others fails = outside_at others name names (lists others name) refl fails (outside names others)

by_role : (names others : List (List ℕ)) → IsOutside names others → IsApart (Roles names) (Roles others)
by_role names others it = (with_roles (it.0 ∷ []), holding_differs (list_any (lists (it.0 ∷ [])) names) (list_any (lists (it.0 ∷ [])) others) (held it.0 names ∙ it.1) (held it.0 others ∙ it.2))

swapped : (access other : Access) → IsApart access other → IsApart other access
swapped access other it = (it.0, λ same. it.1 (sym same))

roles_at : (names others : List (List ℕ)) (first second : Bool) → list_all (lists others) names ≡ first → list_all (lists names) others ≡ second → not (first && second) ≡ true → IsApart (Roles names) (Roles others)
roles_at names others true true is was differ = absurd (false≢true differ)
roles_at names others true false is was differ = swapped (Roles others) (Roles names) (by_role others names (outside others names was))
roles_at names others false second is was differ = by_role names others (outside names others is)

any_to_roles : (names : List (List ℕ)) → IsApart AnyLogin (Roles names)
any_to_roles names = (with_roles [], holding_differs true (list_any (lists []) names) refl (none_held names))

from_any : (other : Access) → alone other ≡ NeedsLogin → not (same_callers AnyLogin other) ≡ true → IsApart AnyLogin other
from_any Unconstrained is differ = absurd (false≢true (sym (ap passes is)))
from_any Uncovered is differ = absurd (false≢true (sym (ap passes is)))
from_any UncoveredDenied is differ = absurd (false≢true (sym (ap denies is)))
from_any Precluded is differ = absurd (false≢true (sym (ap denies is)))
from_any NeedsTls is differ = absurd (false≢true (sym (ap denies is)))
from_any Everyone is differ = absurd (false≢true (sym (ap passes is)))
from_any AnyLogin is differ = absurd (false≢true differ)
from_any (Roles names) is differ = any_to_roles names

from_roles : (names : List (List ℕ)) (other : Access) → alone other ≡ NeedsLogin → not (same_callers (Roles names) other) ≡ true → IsApart (Roles names) other
from_roles names Unconstrained is differ = absurd (false≢true (sym (ap passes is)))
from_roles names Uncovered is differ = absurd (false≢true (sym (ap passes is)))
from_roles names UncoveredDenied is differ = absurd (false≢true (sym (ap denies is)))
from_roles names Precluded is differ = absurd (false≢true (sym (ap denies is)))
from_roles names NeedsTls is differ = absurd (false≢true (sym (ap denies is)))
from_roles names Everyone is differ = absurd (false≢true (sym (ap passes is)))
from_roles names AnyLogin is differ = swapped AnyLogin (Roles names) (any_to_roles names)
from_roles names (Roles others) is differ = roles_at names others (list_all (lists others) names) (list_all (lists names) others) refl refl differ

logins : (access other : Access) → alone access ≡ NeedsLogin → alone other ≡ NeedsLogin → not (same_callers access other) ≡ true → IsApart access other
logins Unconstrained other is was differ = absurd (false≢true (sym (ap passes is)))
logins Uncovered other is was differ = absurd (false≢true (sym (ap passes is)))
logins UncoveredDenied other is was differ = absurd (false≢true (sym (ap denies is)))
logins Precluded other is was differ = absurd (false≢true (sym (ap denies is)))
logins NeedsTls other is was differ = absurd (false≢true (sym (ap denies is)))
logins Everyone other is was differ = absurd (false≢true (sym (ap passes is)))
logins AnyLogin other is was differ = from_any other was differ
logins (Roles names) other is was differ = from_roles names other was differ

-- ---- Case by case.
or_middle : (a c : Bool) → (a || true || c) ≡ true
or_middle true c = refl
or_middle false c = refl

apart_at : (access other : Access) (first second : Kind) → alone access ≡ first → alone other ≡ second → not (same_callers access other) ≡ true → IsApart access other
apart_at access other Passes Passes is was differ =
    absurd (false≢true (sym (ap not (ap₂ (λ a b. a && b || is_closed access && is_closed other || same_logins access other) (opens access is) (opens other was))) ∙ differ))
apart_at access other IsDenied IsDenied is was differ =
    absurd (false≢true (sym (ap not (ap₂ (λ a b. is_open access && is_open other || a && b || same_logins access other) (closes access is) (closes other was) ∙ or_middle (is_open access && is_open other) (same_logins access other))) ∙ differ))
apart_at access other NeedsLogin NeedsLogin is was differ = logins access other is was differ
apart_at access other Passes NeedsLogin is was differ = (None, λ same. false≢true (sym (ap passes (sym is ∙ same ∙ was))))
apart_at access other Passes IsDenied is was differ = (None, λ same. false≢true (sym (ap passes (sym is ∙ same ∙ was))))
apart_at access other NeedsLogin Passes is was differ = (None, λ same. false≢true (ap passes (sym is ∙ same ∙ was)))
apart_at access other NeedsLogin IsDenied is was differ = (None, λ same. false≢true (ap denies (sym is ∙ same ∙ was)))
apart_at access other IsDenied Passes is was differ = (None, λ same. false≢true (ap passes (sym is ∙ same ∙ was)))
apart_at access other IsDenied NeedsLogin is was differ = (None, λ same. false≢true (sym (ap denies (sym is ∙ same ∙ was))))

pub apart : (access other : Access) → not (same_callers access other) ≡ true → (caller : Option Caller) × ((said_to caller access).0 ≢ (said_to caller other).0)
apart access other differ = apart_at access other (alone access) (alone other) refl refl differ
