-- Changing calls move the sessions by calls that components can make at the time of the request.
use Rattle.std.specs.Prelude.{Bool, true, false, ℕ, Option, None, Some, is_some, map, Result, Ok, Err, if◌then◌else◌}
use Rattle.std.specs.Option.{option_map_or}
use Rattle.std.proofs.Common.{◌≡◌, List, [], ◌∷◌, ◌++◌, refl, sym, subst}
use Rattle.sv_session.specs.Calls as session_calls
use Rattle.sv_session.specs.Laws.{MovesJoin}
use Rattle.sv_session.specs.Runs as runs
use Rattle.sv_session.specs.Runs.{Call, Open, End, EnterCaller, Set, Remove, IsOfComponent, MovedByComponents, unless}
use Rattle.sv_session.specs.declared.session_fault.SessionFault.{SessionFault}
use Rattle.sv_text.specs.Faults.{first_or, when}
use Rattle.sv_exchange.specs.declared.exchange_fault.ExchangeFault.{ExchangeFault}
use Rattle.sv_exchange.specs.declared.exchange_fault.ExchangeFault.TheVariants as faults
use Rattle.sv_exchange.specs.Changing.{Change, SetStatus, SetHeader, AddHeader, Write, SetAttribute, Flush, SessionOpen, SessionSet, SessionRemove, SessionEnd, Logout, Reaches, after_all, answer, changed, left_by}
use Rattle.sv_exchange.specs.Sessions.{ended, fault_of, has_session, logged_out, on_session, opened, opening_faults, session_of, session_value, with_attribute, without_attribute, without_caller}
use Rattle.sv_exchange.specs.State.{State}
use Rattle.sv_exchange.proofs.Keeping.{made_request}
use Rattle.sv_exchange.proofs.Reaching.{reaches_to}

abbrev Moves : State → State → Type 0
Moves x y = MovedByComponents x.moment x.store y.store

stays : (x y : State) → y.store ≡ x.store → Moves x y
stays x y same = ([], tt, same)

moves_by : (call : Call) (x y : State) → IsOfComponent x.moment call → y.store ≡ runs.left_by call x.store → Moves x y
moves_by call x y by is = (call ∷ [], (by, tt), is)

-- The result if there is no fault.
done : {A : Type 0} (faults : List SessionFault) (left refused : A) → faults ≡ [] → left ≡ unless faults left refused
done [] left refused none = refl
done (fault ∷ faults) left refused none = cc

-- A call that is not refused has no fault.
opens_freely : (committed : Bool) (others : List SessionFault) → first_or (when committed faults.Committed ++ map fault_of others) true ≡ Ok true → others ≡ []
opens_freely true others h = cc
opens_freely false [] h = refl
opens_freely false (fault ∷ others) h = cc

sets_freely : (others : List SessionFault) → first_or (map fault_of others) true ≡ Ok true → others ≡ []
sets_freely [] h = refl
sets_freely (fault ∷ others) h = cc

on_session_moves : (change : ℕ → State → State) (x : State) → ((number : ℕ) → Moves x (change number x)) → Moves x (on_session change x)
on_session_moves change x moves = found_moves (session_of x)
  where
    found_moves : (found : Option ℕ) → Moves x (option_map_or (λ number. change number x) found x)
    found_moves None = stays x x refl
    found_moves (Some number) = moves number

chosen_moves : (test : Bool) (x y : State) → Moves x y → Moves x (if test then y else x)
chosen_moves true x y moves = moves
chosen_moves false x y moves = stays x x refl

changed_moves : (change : Change) (x : State) → answer change x ≡ Ok true → Moves x (changed change x)
changed_moves (SetStatus status) x h = stays x (changed (SetStatus status) x) refl
changed_moves (SetHeader name value) x h = stays x (changed (SetHeader name value) x) refl
changed_moves (AddHeader name value) x h = stays x (changed (AddHeader name value) x) refl
changed_moves (Write bytes) x h = stays x (changed (Write bytes) x) refl
changed_moves (SetAttribute name value) x h = stays x (changed (SetAttribute name value) x) refl
changed_moves Flush x h = stays x (changed Flush x) refl
changed_moves SessionOpen x h = by_session (has_session x) h
  where
    by_session : (lives : Bool) → (if lives then Ok true else first_or (opening_faults x) true) ≡ Ok true → Moves x (if lives then x else opened x)
    by_session true h = stays x x refl
    by_session false h =
        moves_by (Open x.words x.moment) x (opened x) (refl, tt)
        (done (session_calls.opening_faults x.store) (session_calls.opened x.words x.moment x.store) x.store
        (opens_freely x.committed (session_calls.opening_faults x.store) h))
changed_moves (SessionSet name value) x h = by_session (session_of x) h
  where
    by_session : (found : Option ℕ)
        → first_or (option_map_or (λ number. map fault_of (session_calls.setting_faults number name value x.store)) found (faults.NoSession ∷ [])) true ≡ Ok true
        → Moves x (option_map_or (λ number. with_attribute name value number x) found x)
    by_session None h = stays x x refl
    by_session (Some number) h =
        moves_by (Set number name value) x (with_attribute name value number x) (tt, tt)
        (done (session_calls.setting_faults number name value x.store) (session_calls.with_attribute number name value x.store) x.store
        (sets_freely (session_calls.setting_faults number name value x.store) h))
changed_moves (SessionRemove name) x h =
    chosen_moves (is_some (session_value name x)) x (on_session (without_attribute name) x)
    (on_session_moves (without_attribute name) x (λ number. moves_by (Remove number name) x (without_attribute name number x) (tt, tt) refl))
changed_moves SessionEnd x h = on_session_moves ended x (λ number. moves_by (End number) x (ended number x) (tt, tt) refl)
changed_moves Logout x h =
    chosen_moves (is_some x.caller) x (logged_out x)
    (on_session_moves without_caller x (λ number. moves_by (EnterCaller number None) x (without_caller number x) (tt, tt) refl))

left_moves : (said : Result Bool ExchangeFault) (change : Change) (x : State) → answer change x ≡ said → Moves x (left_by said change x)
left_moves (Ok true) change x h = changed_moves change x h
left_moves (Ok false) change x h = stays x x refl
left_moves (Err fault) change x h = stays x x refl

-- Two moves compose if both are made at the same time.
module _ (joins : MovesJoin) where
  joined : (x y z : State) → y.moment ≡ x.moment → Moves x y → Moves y z → Moves x z
  joined x y z same one two = joins x.moment x.store y.store z.store one (subst (λ now. MovedByComponents now y.store z.store) same two)

  all_move : (changes : List Change) (x : State) → Moves x (after_all changes x)
  all_move [] x = stays x x refl
  all_move (change ∷ changes) x =
      let y = left_by (answer change x) change x in
      joined x y (after_all changes y) (made_request change x).moment (left_moves (answer change x) change x refl) (all_move changes y)

  pub changes_move : (x y : State) → Reaches x y → Moves x y
  changes_move x y changing = let reached = reaches_to x y changing in subst (Moves x) (sym reached.1) (all_move reached.0 x)
