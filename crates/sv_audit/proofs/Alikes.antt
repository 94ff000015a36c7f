-- Accesses that let the same callers pass decide alike for each caller.
use Rattle.std.proofs.lemmas.Bool.{false≢true}
use Rattle.std.proofs.lemmas.List.Sums.{AllPass-from_list_all}
use Rattle.std.proofs.lemmas.Slice.Eq.{bytes_eq-Decides}
use Rattle.std.proofs.Common.{◌≡◌, ℕ, Bool, true, false, not, ◌||◌, ◌&&◌, List, refl, ap, sym, ◌∙◌, cond, Option, None, Some}
use Rattle.std.specs.Prelude.{◌≢◌, slice_index_or}
use Rattle.std.specs.Cmp.{both_ways}
use Rattle.std.specs.List.{list_all}
use Rattle.std.specs.Str.{bytes_eq}
use Rattle.sv_realm.specs.declared.caller.Caller.{Caller}
use Rattle.sv_constraints.specs.Covering.{lists}
use Rattle.sv_constraints.specs.declared.cause.Cause.{Cause}
use Rattle.sv_constraints.specs.declared.cause.Cause.TheVariants as cause
use Rattle.sv_policy.proofs.Best.{any_listed}
use Rattle.sv_audit.proofs.Equal.{and_left, and_right}
use Rattle.sv_audit.proofs.Witness.{found}
use Rattle.sv_audit.specs.Callers.{is_closed, is_open, same_callers, same_logins}
use Rattle.sv_audit.specs.Reading.{Kind, IsDenied, Passes, said_to}
use Rattle.sv_audit.specs.declared.access.Access.{Access}
use Rattle.sv_audit.specs.declared.access.Access.TheVariants.{Unconstrained, Uncovered, UncoveredDenied, Precluded, NeedsTls, Everyone, AnyLogin, Roles}

module _ (caller : Option Caller) where
  abbrev pub kind : Access → Kind
  kind access = (said_to caller access).0

  pub opened : (access : Access) → is_open access ≡ true → kind access ≡ Passes
  opened Unconstrained is = refl
  opened Uncovered is = refl
  opened UncoveredDenied is = absurd (false≢true is)
  opened Precluded is = absurd (false≢true is)
  opened NeedsTls is = absurd (false≢true is)
  opened Everyone is = refl
  opened AnyLogin is = absurd (false≢true is)
  opened (Roles names) is = absurd (false≢true is)

  closed : (access : Access) → is_closed access ≡ true → kind access ≡ IsDenied
  closed Unconstrained is = absurd (false≢true is)
  closed Uncovered is = absurd (false≢true is)
  closed UncoveredDenied is = refl
  closed Precluded is = refl
  closed NeedsTls is = refl
  closed Everyone is = absurd (false≢true is)
  closed AnyLogin is = absurd (false≢true is)
  closed (Roles names) is = absurd (false≢true is)

pub within_others : (names others : List (List ℕ)) (text : List ℕ) → list_all (lists others) names ≡ true → lists names text ≡ true → lists others text ≡ true
within_others names others text all there =
    found (lists others text ≡ true) (λ listed. bytes_eq listed text) names there
    (λ k d within same. ap (lists others) (sym ((bytes_eq-Decides (slice_index_or names k d) text).0 same)) ∙ AllPass-from_list_all (lists others) names all k d within)

same_texts : (names others : List (List ℕ)) → (list_all (lists others) names && list_all (lists names) others) ≡ true → (text : List ℕ) → lists names text ≡ lists others text
same_texts names others same text =
    both_ways (lists names text) (lists others text) (within_others names others text (and_left (list_all (lists others) names) (list_all (lists names) others) same))
    (within_others others names text (and_right (list_all (lists others) names) (list_all (lists names) others) same))

roles_alike : (caller : Option Caller) (names others : List (List ℕ)) → (list_all (lists others) names && list_all (lists names) others) ≡ true → kind caller (Roles names) ≡ kind caller (Roles others)
roles_alike None names others same = refl
roles_alike (Some caller) names others same = ap (λ b. (cond {A = Kind × Cause} b (Passes, cause.Role) (IsDenied, cause.NoRole)).0) (any_listed (lists caller.roles) names others (same_texts names others same))

any_alike : (caller : Option Caller) (other : Access) → same_logins AnyLogin other ≡ true → kind caller AnyLogin ≡ kind caller other
any_alike caller Unconstrained same = absurd (false≢true same)
any_alike caller Uncovered same = absurd (false≢true same)
any_alike caller UncoveredDenied same = absurd (false≢true same)
any_alike caller Precluded same = absurd (false≢true same)
any_alike caller NeedsTls same = absurd (false≢true same)
any_alike caller Everyone same = absurd (false≢true same)
any_alike caller AnyLogin same = refl
any_alike caller (Roles names) same = absurd (false≢true same)

named_alike : (caller : Option Caller) (names : List (List ℕ)) (other : Access) → same_logins (Roles names) other ≡ true → kind caller (Roles names) ≡ kind caller other
named_alike caller names Unconstrained same = absurd (false≢true same)
named_alike caller names Uncovered same = absurd (false≢true same)
named_alike caller names UncoveredDenied same = absurd (false≢true same)
named_alike caller names Precluded same = absurd (false≢true same)
named_alike caller names NeedsTls same = absurd (false≢true same)
named_alike caller names Everyone same = absurd (false≢true same)
named_alike caller names AnyLogin same = absurd (false≢true same)
named_alike caller names (Roles others) same = roles_alike caller names others same

logins_alike : (caller : Option Caller) (access other : Access) → same_logins access other ≡ true → kind caller access ≡ kind caller other
logins_alike caller Unconstrained other same = absurd (false≢true same)
logins_alike caller Uncovered other same = absurd (false≢true same)
logins_alike caller UncoveredDenied other same = absurd (false≢true same)
logins_alike caller Precluded other same = absurd (false≢true same)
logins_alike caller NeedsTls other same = absurd (false≢true same)
logins_alike caller Everyone other same = absurd (false≢true same)
logins_alike caller AnyLogin other same = any_alike caller other same
logins_alike caller (Roles names) other same = named_alike caller names other same

pub alike_at : (caller : Option Caller) (access other : Access) (open_both closed_both : Bool) → (is_open access && is_open other) ≡ open_both → (is_closed access && is_closed other) ≡ closed_both
    → (open_both || closed_both || same_logins access other) ≡ true → kind caller access ≡ kind caller other
alike_at caller access other true closed_both is was same =
    opened caller access (and_left (is_open access) (is_open other) is) ∙ sym (opened caller other (and_right (is_open access) (is_open other) is))
alike_at caller access other false true is was same =
    closed caller access (and_left (is_closed access) (is_closed other) was) ∙ sym (closed caller other (and_right (is_closed access) (is_closed other) was))
alike_at caller access other false false is was same = logins_alike caller access other same

pub differ_at : (caller : Option Caller) (access other : Access) (same : Bool) → same_callers access other ≡ same → kind caller access ≢ kind caller other → not same ≡ true
differ_at caller access other true is apart = absurd (apart (alike_at caller access other (is_open access && is_open other) (is_closed access && is_closed other) refl refl is))
differ_at caller access other false is apart = refl
