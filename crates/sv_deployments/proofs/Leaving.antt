-- Calls of an exchange that leave the fields that a proxy reads, and the caller.
use Rattle.std.proofs.Common.{◌≡◌, ℕ, Bool, true, false, Option, None, Some, Result, Ok, Err, refl, ap, ◌∙◌}
use Rattle.std.specs.Option.{option_map_or}
use Rattle.std.specs.Prelude.{is_some, if◌then◌else◌}
use Rattle.sv_application.proofs.ProxyFields.{IsOtherName, other_added, other_set}
use Rattle.sv_application.specs.ProxyFields.{OnExchange, SameProxyFields, proxy_fields}
use Rattle.sv_component.specs.Call.{Call, Inited, Serviced, Entered, Left, Heard, Destroyed}
use Rattle.sv_deployments.specs.Leaving.{CallLeavesFields, HasCallerOf, HasFieldsOf, LeavesCaller, LeavesFields}
use Rattle.sv_exchange.specs.Changing.{Change, SetStatus, SetHeader, AddHeader, Write, SetAttribute, Flush, SessionOpen, SessionSet, SessionRemove, SessionEnd, Logout, Does, changed, left_by}
use Rattle.sv_exchange.specs.Sessions.{ended, has_session, logged_out, on_session, opened, session_of, session_value, with_attribute, without_attribute, without_caller}
use Rattle.sv_exchange.specs.State.{State}
use Rattle.sv_exchange.specs.declared.exchange_fault.ExchangeFault.{ExchangeFault}
use Rattle.sv_exchange.specs.declared.exchange_fault.ExchangeFault.TheVariants as faults

-- ---- a part of the state that a change leaves

module _ {A : Type 0} (part : State → A) where
  on_session_same : (change : ℕ → State → State) (x : State) → ((number : ℕ) → part (change number x) ≡ part x) → part (on_session change x) ≡ part x
  on_session_same change x same = found_same (session_of x)
    where
      found_same : (found : Option ℕ) → part (option_map_or (λ number. change number x) found x) ≡ part x
      found_same None = refl
      found_same (Some number) = same number

  chosen_same : (test : Bool) (x y : State) → part y ≡ part x → part (if test then y else x) ≡ part x
  chosen_same true x y same = same
  chosen_same false x y same = refl

  kept_same : (test : Bool) (x y : State) → part y ≡ part x → part (if test then x else y) ≡ part x
  kept_same true x y same = refl
  kept_same false x y same = same

  does_same : (change : Change) (result : Result Bool ExchangeFault) (before after : State) → part (changed change before) ≡ part before
      → Does change result before after → part after ≡ part before
  does_same change (Ok true) before after same does = ap part does.1 ∙ same
  does_same change (Ok false) before after same does = ap part does.1
  does_same change (Err faults.NoMemory) before after same does = ap part does.1
  does_same change (Err faults.Committed) before after same does = ap part does.1
  does_same change (Err faults.TooManySessions) before after same does = ap part does.1
  does_same change (Err faults.SerialSpent) before after same does = ap part does.1
  does_same change (Err faults.NoSession) before after same does = ap part does.1
  does_same change (Err faults.BadHeader) before after same does = ap part does.1
  does_same change (Err faults.TooLarge) before after same does = ap part does.1

-- ---- the fields

abbrev pub IsOther : Change → Type 0
IsOther (SetHeader name value) = IsOtherName name
IsOther (AddHeader name value) = IsOtherName name
IsOther change = Unit {0}

fields_same : (change : Change) → IsOther change → (x : State) → proxy_fields (changed change x).fields ≡ proxy_fields x.fields
fields_same (SetStatus status) other x = refl
fields_same (SetHeader name value) other x = other_set name value x.fields other
fields_same (AddHeader name value) other x = other_added name value x.fields other
fields_same (Write bytes) other x = refl
fields_same (SetAttribute name value) other x = refl
fields_same Flush other x = refl
fields_same SessionOpen other x = kept_same (λ y. proxy_fields y.fields) (has_session x) x (opened x) refl
fields_same (SessionSet name value) other x = on_session_same (λ y. proxy_fields y.fields) (with_attribute name value) x (λ number. refl)
fields_same (SessionRemove name) other x =
    chosen_same (λ y. proxy_fields y.fields) (is_some (session_value name x)) x (on_session (without_attribute name) x)
    (on_session_same (λ y. proxy_fields y.fields) (without_attribute name) x (λ number. refl))
fields_same SessionEnd other x = on_session_same (λ y. proxy_fields y.fields) ended x (λ number. refl)
fields_same Logout other x =
    chosen_same (λ y. proxy_fields y.fields) (is_some x.caller) x (logged_out x)
    (on_session_same (λ y. proxy_fields y.fields) without_caller x (λ number. refl))

pub fields_left : (change : Change) → IsOther change → (result : Result Bool ExchangeFault) (before after : State)
    → Does change result before after → LeavesFields before after
unfolding HasFieldsOf
fields_left change other result before after does first has =
    does_same (λ y. proxy_fields y.fields) change result before after (fields_same change other before) does ∙ has

pub fields_stay : (before after : State) → LeavesFields before after → SameProxyFields before after
unfolding HasFieldsOf
fields_stay before after leaves = leaves before refl

pub call_fields_stay : (call : Call) → CallLeavesFields call → OnExchange SameProxyFields call
call_fields_stay (Serviced before turn step after) leaves = fields_stay before after leaves
call_fields_stay (Entered before gate after) leaves = fields_stay before after leaves
call_fields_stay (Left before done after) leaves = fields_stay before after leaves
call_fields_stay (Inited config init) leaves = tt
call_fields_stay (Heard event) leaves = tt
call_fields_stay Destroyed leaves = tt

-- ---- the caller

abbrev pub KeepsLogin : Change → Type 0
KeepsLogin SessionEnd = ⊥
KeepsLogin Logout = ⊥
KeepsLogin change = Unit {0}

caller_same : (change : Change) → KeepsLogin change → (x : State) → (changed change x).caller ≡ x.caller
caller_same (SetStatus status) keeps x = refl
caller_same (SetHeader name value) keeps x = refl
caller_same (AddHeader name value) keeps x = refl
caller_same (Write bytes) keeps x = refl
caller_same (SetAttribute name value) keeps x = refl
caller_same Flush keeps x = refl
caller_same SessionOpen keeps x = kept_same (λ y. y.caller) (has_session x) x (opened x) refl
caller_same (SessionSet name value) keeps x = on_session_same (λ y. y.caller) (with_attribute name value) x (λ number. refl)
caller_same (SessionRemove name) keeps x =
    chosen_same (λ y. y.caller) (is_some (session_value name x)) x (on_session (without_attribute name) x)
    (on_session_same (λ y. y.caller) (without_attribute name) x (λ number. refl))
caller_same SessionEnd keeps x = absurd keeps
caller_same Logout keeps x = absurd keeps

pub caller_left : (change : Change) → KeepsLogin change → (result : Result Bool ExchangeFault) (before after : State)
    → Does change result before after → LeavesCaller before after
unfolding HasCallerOf
caller_left change keeps result before after does first has =
    does_same (λ y. y.caller) change result before after (caller_same change keeps before) does ∙ has

pub caller_stays : (before after : State) → LeavesCaller before after → after.caller ≡ before.caller
unfolding HasCallerOf
caller_stays before after leaves = leaves before refl
