-- Within an include, changing calls leave the status and the fields unchanged.
use Rattle.std.specs.Prelude.{ℕ, Bool, true, false, not, ◌&&◌, Option, None, Some, is_some, Result, Ok, Err, if◌then◌else◌}
use Rattle.std.proofs.Common.{◌≡◌, List, [], ◌∷◌, refl, sym, ◌∙◌, ap, subst}
use Rattle.std.specs.List.{list_any}
use Rattle.std.specs.Option.{option_map_or}
use Rattle.sv_exchange.specs.declared.exchange_fault.ExchangeFault.{ExchangeFault}
use Rattle.sv_exchange.specs.declared.exchange_fault.ExchangeFault.TheVariants as faults
use Rattle.sv_exchange.specs.Changing.{Change, SetStatus, SetHeader, AddHeader, Write, SetAttribute, Flush, SessionOpen, SessionSet, SessionRemove, SessionEnd, Logout, Reaches, after_all, answer, changed, is_free, is_open, is_settable, left_by}
use Rattle.sv_exchange.specs.Dispatches.{is_include, is_within_include}
use Rattle.sv_exchange.specs.Fields.{is_field, is_reserved_field}
use Rattle.sv_exchange.specs.Keeping.{SameHead}
use Rattle.sv_exchange.specs.Sessions.{ended, has_session, logged_out, on_session, opened, session_of, session_value, with_attribute, without_attribute, without_caller}
use Rattle.sv_exchange.specs.State.{State}
use Rattle.sv_exchange.proofs.Keeping.{made_request}
use Rattle.sv_exchange.proofs.Reaching.{reaches_to}

-- A call that is not ignored is made outside of includes.
not_open : {P : Type 0} (committed within settable : Bool) → within ≡ true → ((not committed && not within) && settable) ≡ true → P
not_open true within settable h e = cc
not_open false true settable h e = cc
not_open false false settable h e = cc

not_free : (committed within free : Bool) → within ≡ true → ((not committed && not within) && free) ≡ false
not_free true within free h = refl
not_free false true free h = refl
not_free false false free h = cc

abbrev answered : Bool → Bool → Result Bool ExchangeFault
answered free test = if free then (if test then Ok true else Err faults.BadHeader) else Ok false

not_answered : {P : Type 0} (free test : Bool) → free ≡ false → answered free test ≡ Ok true → P
not_answered true test h e = cc
not_answered false test h e = cc

ok_true : (said : Result Bool ExchangeFault) (test : Bool) → said ≡ Ok test → said ≡ Ok true → test ≡ true
ok_true said test is e = cc

on_session_head : (change : ℕ → State → State) (x : State) → ((number : ℕ) → SameHead x (change number x)) → SameHead x (on_session change x)
on_session_head change x same = found_head (session_of x)
  where
    found_head : (found : Option ℕ) → SameHead x (option_map_or (λ number. change number x) found x)
    found_head None = (refl, refl)
    found_head (Some number) = same number

chosen_head : (test : Bool) (x y z : State) → SameHead x y → SameHead x z → SameHead x (if test then y else z)
chosen_head true x y z one other = one
chosen_head false x y z one other = other

changed_head : (change : Change) (x : State) → is_within_include x ≡ true → answer change x ≡ Ok true → SameHead x (changed change x)
changed_head (SetStatus status) x h e =
    not_open x.committed (is_within_include x) (is_settable status) h (ok_true (answer (SetStatus status) x) (is_open x && is_settable status) refl e)
changed_head (SetHeader name value) x h e =
    not_answered (is_free name x) (is_field name value) (not_free x.committed (is_within_include x) (not (is_reserved_field name)) h) e
changed_head (AddHeader name value) x h e =
    not_answered (is_free name x) (is_field name value) (not_free x.committed (is_within_include x) (not (is_reserved_field name)) h) e
changed_head (Write bytes) x h e = (refl, refl)
changed_head (SetAttribute name value) x h e = (refl, refl)
changed_head Flush x h e = (refl, refl)
changed_head SessionOpen x h e = chosen_head (has_session x) x x (opened x) (refl, refl) (refl, refl)
changed_head (SessionSet name value) x h e = on_session_head (with_attribute name value) x (λ number. (refl, refl))
changed_head (SessionRemove name) x h e =
    chosen_head (is_some (session_value name x)) x (on_session (without_attribute name) x) x
    (on_session_head (without_attribute name) x (λ number. (refl, refl))) (refl, refl)
changed_head SessionEnd x h e = on_session_head ended x (λ number. (refl, refl))
changed_head Logout x h e =
    chosen_head (is_some x.caller) x (logged_out x) x (on_session_head without_caller x (λ number. (refl, refl))) (refl, refl)

left_head : (said : Result Bool ExchangeFault) (change : Change) (x : State) → is_within_include x ≡ true → answer change x ≡ said → SameHead x (left_by said change x)
left_head (Ok true) change x h e = changed_head change x h e
left_head (Ok false) change x h e = (refl, refl)
left_head (Err fault) change x h e = (refl, refl)

pub made_head : (change : Change) (x : State) → is_within_include x ≡ true → SameHead x (left_by (answer change x) change x)
made_head change x h = left_head (answer change x) change x h refl

all_head : (changes : List Change) (x : State) → is_within_include x ≡ true → SameHead x (after_all changes x)
all_head [] x h = (refl, refl)
all_head (change ∷ changes) x h =
    let y = left_by (answer change x) change x in
    let first = made_head change x h in
    let second = all_head changes y (ap (λ dispatches. list_any is_include dispatches) (made_request change x).dispatches ∙ h) in
    (second.0 ∙ first.0, second.1 ∙ first.1)

pub changes_keep_head : (x y : State) → Reaches x y → is_within_include x ≡ true → SameHead x y
changes_keep_head x y changing h = let reached = reaches_to x y changing in subst (SameHead x) (sym reached.1) (all_head reached.0 x h)
