-- Settling the sessions in the code.
use Rattle.std.proofs.Common.{◌≡◌, ℕ, ◌+◌, Bool, true, false, List, [], ◌∷◌, refl, sym, ◌∙◌, ap, subst, Option, None, Some, Result, Ok, Err, IfOk}
use Rattle.std.specs.List.{slice_get}
use Rattle.std.specs.Str.{bytes_eq}
use Rattle.std.specs.Prelude.{codes}
use Rattle.sv_exchange.specs.Asked.{Asked}
use Rattle.sv_admission.specs.Seen.{seen}
use Rattle.sv_admission.specs.Settled.{Settled, interrupted, opened_with, renewed, saved_in, unchanged}
use Rattle.sv_admission.specs.declared.sessions.Settled as code
use Rattle.sv_session.specs.Calls.{RefusesCall, opened, opening_faults, with_saved}
use Rattle.sv_session.specs.Runs.{unless}
use Rattle.sv_session.specs.Store.{SessionsState, Store}
use Rattle.sv_session.specs.declared.session_fault.SessionFault.{SessionFault}
use Rattle.sv_session.specs.declared.session_fault.SessionFault.TheVariants.{SerialSpent, TooMany}
use Rattle.sv_tree.specs.FileServlet.{sent_to}
use Rattle.sv_text.specs.declared.no_memory.NoMemory.{NoMemory}

pub no_fault : {A : Type 0} (faults : List SessionFault) (done refused : A) → faults ≡ [] → unless faults done refused ≡ done
no_fault [] done refused h = refl
no_fault (fault ∷ faults) done refused h = cc

pub some_fault : {A : Type 0} (faults : List SessionFault) (fault : SessionFault) (done refused : A) → slice_get faults 0 ≡ Some fault → unless faults done refused ≡ refused
some_fault [] fault done refused h = cc
some_fault (first ∷ faults) fault done refused h = refl

-- A session was opened, and the target saved in it.
pub opened_so : (asked : Asked) (target : List ℕ) (before between after : SessionsState) (number : ℕ) (x : Settled)
    → (opening_faults before.store ≡ []) × (number ≡ before.store.serial + 1) × (between ≡ record before { store = opened asked.words asked.moment before.store })
    → after ≡ record between { store = with_saved number (Some target) between.store } → x ≡ renewed None number after.store
    → x ≡ saved_in asked target None before.store
opened_so asked target before between after number x (none, is_number, opens) saves is =
    let made : renewed None number after.store ≡ opened_with asked target before.store = rw (saves, opens, is_number) refl in
    is ∙ made ∙ sym (no_fault (opening_faults before.store) (opened_with asked target before.store) (unchanged None before.store) none)

-- No session could be opened.
refused_so : (asked : Asked) (target : List ℕ) (before after : SessionsState) (fault : SessionFault) (x : Settled)
    → (slice_get (opening_faults before.store) 0 ≡ Some fault) × (after ≡ before) → x ≡ unchanged None after.store
    → x ≡ saved_in asked target None before.store
refused_so asked target before after fault x (some, same) is =
    is ∙ ap (λ (state : SessionsState). unchanged None state.store) same
    ∙ sym (some_fault (opening_faults before.store) fault (opened_with asked target before.store) (unchanged None before.store) some)

-- The store is full, or its serial numbers are used up.
pub full_so : (asked : Asked) (target : List ℕ) (before after : SessionsState) (fault : SessionFault) (x : Settled)
    → fault ≡ TooMany → RefusesCall (opening_faults before.store) fault before after → x ≡ unchanged None after.store → x ≡ saved_in asked target None before.store
full_so asked target before after fault x is refuses =
    refused_so asked target before after TooMany x (subst (λ other. RefusesCall (opening_faults before.store) other before after) is refuses)

pub spent_so : (asked : Asked) (target : List ℕ) (before after : SessionsState) (fault : SessionFault) (x : Settled)
    → fault ≡ SerialSpent → RefusesCall (opening_faults before.store) fault before after → x ≡ unchanged None after.store → x ≡ saved_in asked target None before.store
spent_so asked target before after fault x is refuses =
    refused_so asked target before after SerialSpent x (subst (λ other. RefusesCall (opening_faults before.store) other before after) is refuses)

-- A method other than GET.
pub not_saved : (context_path : List ℕ) (asked : Asked) (held : Option ℕ) (store : Store) (test : Bool) (x : Settled)
    → test ≡ bytes_eq asked.message.method (codes "GET") → test ≡ false → x ≡ unchanged held store → x ≡ interrupted context_path asked held store
not_saved context_path asked held store test x is not is_unchanged = let other = sym is ∙ not in rw other is_unchanged

-- The method GET.
pub is_saved : (context_path : List ℕ) (asked : Asked) (target : List ℕ) (held : Option ℕ) (store after : Store) (test : Bool) (result : Result code.Settled NoMemory)
    → test ≡ bytes_eq asked.message.method (codes "GET") → test ≡ true → target ≡ sent_to context_path asked.canon.path asked.canon.query
    → IfOk result (λ settled. seen after settled ≡ saved_in asked target held store)
    → IfOk result (λ settled. seen after settled ≡ interrupted context_path asked held store)
is_saved context_path asked target held store after test (Err refusal) is got where_to saves = tt
is_saved context_path asked target held store after test (Ok settled) is got where_to saves =
    let get = sym is ∙ got in rw get (saves ∙ ap (λ text. saved_in asked text held store) where_to)

-- The target is saved in the held session.
pub held_so : (asked : Asked) (target : List ℕ) (held : Option ℕ) (number : ℕ) (before after : SessionsState) (x : Settled)
    → held ≡ Some number → after ≡ record before { store = with_saved number (Some target) before.store } → x ≡ unchanged (Some number) after.store
    → x ≡ saved_in asked target held before.store
held_so asked target held number before after x is saves is_unchanged =
    rw is (is_unchanged ∙ ap (λ (state : SessionsState). unchanged (Some number) state.store) saves)
