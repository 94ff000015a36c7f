-- The effective access decides the fate of every visitor, and accesses that let others in are known by their roles.
use Rattle.std.proofs.lemmas.Bool.{false≢true, not-true}
use Rattle.std.proofs.Common.{◌≡◌, ℕ, Bool, true, false, not, ◌||◌, ◌&&◌, List, [], ◌∷◌, refl, ap, sym, ◌∙◌, cond, Option, None, Some}
use Rattle.std.specs.Prelude.{◌≢◌}
use Rattle.std.specs.List.{list_all, list_any}
use Rattle.sv_realm.specs.declared.caller.Caller.{Caller}
use Rattle.sv_constraints.specs.Covering.{lists}
use Rattle.sv_constraints.specs.declared.cause.Cause.{Cause}
use Rattle.sv_audit.proofs.Alikes.{alike_at, opened, within_others}
use Rattle.sv_audit.proofs.Callers.{apart, by_holding, held, none_held, opens, outside, passes}
use Rattle.sv_audit.proofs.Members.{any_found, found_any}
use Rattle.sv_audit.proofs.Represented.{in_listed, listed_in}
use Rattle.sv_audit.specs.Callers.{is_closed, is_open}
use Rattle.sv_audit.specs.Configurations.{Configuration, fate_of, said_by}
use Rattle.sv_audit.specs.Reading.{Kind, Passes, said_to}
use Rattle.sv_audit.specs.Visitors.{EffectiveIsMet, LettingInIsExact, SameCallersAreExact, answered, decided_by, effective, is_any_login, kind_of, known, lets_callers_in, lets_in, roles_in}
use Rattle.sv_audit.specs.declared.access.Access.{Access}
use Rattle.sv_audit.specs.declared.access.Access.TheVariants.{Unconstrained, Uncovered, UncoveredDenied, Precluded, NeedsTls, Everyone, AnyLogin, Roles}
use Rattle.sv_audit.specs.declared.visitors.DifferenceKind.{DifferenceKind}
use Rattle.sv_audit.specs.declared.visitors.DifferenceKind.TheVariants.{Changed, Closed, Opened}

-- ---- The effective access.
pub effective_is_met : EffectiveIsMet
effective_is_met true access visitor = refl
effective_is_met false Unconstrained visitor = refl
effective_is_met false Uncovered visitor = refl
effective_is_met false UncoveredDenied visitor = refl
effective_is_met false Precluded visitor = refl
effective_is_met false NeedsTls visitor = refl
effective_is_met false Everyone visitor = refl
effective_is_met false AnyLogin visitor = refl
effective_is_met false (Roles names) visitor = refl

pub same_callers_exact : SameCallersAreExact
same_callers_exact before after = (
  λ same visitor. alike_at visitor before after (is_open before && is_open after) (is_closed before && is_closed after) refl refl same,
  λ differ. apart before after differ,
)

-- ---- Whom an access admits.
-- An access that needs roles, or admits nobody, admits the callers who hold one of its roles.
by_roles : (access : Access) (caller : Caller) → is_open access ≡ false → is_any_login access ≡ false → decided_by access (Some caller) ≡ by_holding (list_any (lists caller.roles) (roles_in access))
by_roles Unconstrained caller shut few = absurd (false≢true (sym shut))
by_roles Uncovered caller shut few = absurd (false≢true (sym shut))
by_roles UncoveredDenied caller shut few = refl
by_roles Precluded caller shut few = refl
by_roles NeedsTls caller shut few = refl
by_roles Everyone caller shut few = absurd (false≢true (sym shut))
by_roles AnyLogin caller shut few = absurd (false≢true (sym few))
by_roles (Roles names) caller shut few = refl

any_passes : (access : Access) (caller : Caller) → is_any_login access ≡ true → decided_by access (Some caller) ≡ Passes
any_passes Unconstrained caller is = absurd (false≢true is)
any_passes Uncovered caller is = absurd (false≢true is)
any_passes UncoveredDenied caller is = absurd (false≢true is)
any_passes Precluded caller is = absurd (false≢true is)
any_passes NeedsTls caller is = absurd (false≢true is)
any_passes Everyone caller is = absurd (false≢true is)
any_passes AnyLogin caller is = refl
any_passes (Roles names) caller is = absurd (false≢true is)

holds_if_passes : (holds : Bool) → by_holding holds ≡ Passes → holds ≡ true
holds_if_passes true is = refl
holds_if_passes false is = absurd (false≢true (ap passes is))

fails_without : (holds : Bool) → holds ≡ false → by_holding holds ≢ Passes
fails_without holds lacks is = false≢true (sym lacks ∙ holds_if_passes holds is)

alone_fails : (access : Access) → is_open access ≡ false → decided_by access None ≢ Passes
alone_fails access shut is = false≢true (sym shut ∙ opens access is)

-- ---- A visitor who passes only after.
abbrev IsLetIn : Access → Access → Type 0
IsLetIn before after = (visitor : Option Caller) × (decided_by before visitor ≢ Passes) × (decided_by after visitor ≡ Passes)

abbrev no_roles : Caller
no_roles = record { number = 0; name = []; roles = [] }

abbrev one_role : List ℕ → Caller
one_role role = record { number = 0; name = []; roles = role ∷ [] }

any_let_in : (before after : Access) → is_open before ≡ false → is_any_login before ≡ false → is_any_login after ≡ true → IsLetIn before after
any_let_in before after shut few is =
    (Some no_roles, λ same. fails_without (list_any (lists []) (roles_in before)) (none_held (roles_in before)) (sym (by_roles before no_roles shut few) ∙ same), any_passes after no_roles is)

role_let_in : (before after : Access) → is_open before ≡ false → is_any_login before ≡ false → is_open after ≡ false → is_any_login after ≡ false → list_all (lists (roles_in before)) (roles_in after) ≡ false → IsLetIn before after
role_let_in before after shut few closed none more =
    let it = outside (roles_in after) (roles_in before) more in (
      Some (one_role it.0),
      λ same. fails_without (list_any (lists (it.0 ∷ [])) (roles_in before)) (held it.0 (roles_in before) ∙ it.2) (sym (by_roles before (one_role it.0) shut few) ∙ same),
      by_roles after (one_role it.0) closed none ∙ ap by_holding (held it.0 (roles_in after) ∙ it.1),
    )

callers_let_in : (before after : Access) (few any covered : Bool) → is_open before ≡ false → is_open after ≡ false → is_any_login before ≡ few → is_any_login after ≡ any → list_all (lists (roles_in before)) (roles_in after) ≡ covered
    → (not few && (any || not covered)) ≡ true → IsLetIn before after
callers_let_in before after true any covered shut closed is was all lets = absurd (false≢true lets)
callers_let_in before after false true covered shut closed is was all lets = any_let_in before after shut is was
callers_let_in before after false false true shut closed is was all lets = absurd (false≢true lets)
callers_let_in before after false false false shut closed is was all lets = role_let_in before after shut is closed was all

let_in_at : (before after : Access) (first second : Bool) → is_open before ≡ first → is_open after ≡ second → (not first && (second || lets_callers_in before after)) ≡ true → IsLetIn before after
let_in_at before after true second is was lets = absurd (false≢true lets)
let_in_at before after false true is was lets = (None, alone_fails before is, opened None after was)
let_in_at before after false false is was lets =
    callers_let_in before after (is_any_login before) (is_any_login after) (list_all (lists (roles_in before)) (roles_in after)) is was refl refl refl lets

-- ---- Nobody passes only after.
held_before : (caller : Caller) (names others : List (List ℕ)) → list_all (lists others) names ≡ true → list_any (lists caller.roles) names ≡ true → list_any (lists caller.roles) others ≡ true
held_before caller names others all some =
    let it = found_any (lists caller.roles) names some in
    any_found (lists caller.roles) it.0 others (in_listed others it.0 (within_others names others it.0 all (listed_in names it.0 it.1))) it.2

abbrev PassedBefore : Access → Access → Option Caller → Type 0
PassedBefore before after visitor = decided_by after visitor ≡ Passes → decided_by before visitor ≡ Passes

caller_passed : (before after : Access) (caller : Caller) (few any covered : Bool) → is_open before ≡ false → is_open after ≡ false → is_any_login before ≡ few → is_any_login after ≡ any → list_all (lists (roles_in before)) (roles_in after) ≡ covered
    → (not few && (any || not covered)) ≡ false → PassedBefore before after (Some caller)
caller_passed before after caller true any covered shut closed is was all lets pass = any_passes before caller is
caller_passed before after caller false true covered shut closed is was all lets pass = absurd (false≢true (sym lets))
caller_passed before after caller false false false shut closed is was all lets pass = absurd (false≢true (sym lets))
caller_passed before after caller false false true shut closed is was all lets pass =
    by_roles before caller shut is
    ∙ ap by_holding (held_before caller (roles_in after) (roles_in before) all (holds_if_passes (list_any (lists caller.roles) (roles_in after)) (sym (by_roles after caller closed was) ∙ pass)))

passed_at : (before after : Access) (first second : Bool) → is_open before ≡ first → is_open after ≡ second → (not first && (second || lets_callers_in before after)) ≡ false → (visitor : Option Caller) → PassedBefore before after visitor
passed_at before after true second is was lets visitor pass = opened visitor before is
passed_at before after false true is was lets visitor pass = absurd (false≢true (sym lets))
passed_at before after false false is was lets None pass = absurd (false≢true (sym was ∙ opens after pass))
passed_at before after false false is was lets (Some caller) pass =
    caller_passed before after caller (is_any_login before) (is_any_login after) (list_all (lists (roles_in before)) (roles_in after)) is was refl refl refl lets pass

pub letting_in_exact : LettingInIsExact
letting_in_exact before after = (
  λ lets. let_in_at before after (is_open before) (is_open after) refl refl lets,
  λ none visitor pass. passed_at before after (is_open before) (is_open after) refl refl (not-true (lets_in before after) none) visitor pass,
)

-- ---- The kind of a difference.
abbrev pub Letting : Access → Access → DifferenceKind → Type 0
Letting before after Opened = lets_in before after ≡ true
Letting before after Closed = (lets_in after before ≡ true) × (lets_in before after ≡ false)
Letting before after Changed = (lets_in after before ≡ false) × (lets_in before after ≡ false)

letting_of : (before after : Access) (first second : Bool) → lets_in before after ≡ first → lets_in after before ≡ second → Letting before after (cond first Opened (cond second Closed Changed))
letting_of before after true second is was = is
letting_of before after false true is was = (was, is)
letting_of before after false false is was = (was, is)

pub letting_at : (before after : Access) → Letting before after (kind_of before after)
letting_at before after = letting_of before after (lets_in before after) (lets_in after before) refl refl

-- The fate by what an access says is that by the effective access.
abbrev pub met_fate : Bool → Access → Option Caller → Kind
met_fate has_login access visitor = decided_by (effective has_login access) visitor

pub fate_by : (it : Configuration) (method path : List ℕ) (visitor : Option Caller) (access : Access) → said_by it method path (known it.has_login visitor) ≡ said_to (known it.has_login visitor) access → fate_of it method path visitor ≡ met_fate it.has_login access visitor
fate_by it method path visitor access is = ap (λ (said : Kind × Cause). answered it.has_login said.0) is ∙ effective_is_met it.has_login access visitor
