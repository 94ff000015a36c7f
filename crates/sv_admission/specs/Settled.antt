-- The sessions after a message is judged and before it is answered (Jakarta Servlet 6.0, sections 7.1, 7.2, 11.3 and
-- 13.6.3).
use Rattle.std.specs.Prelude.{ℕ, ◌+◌, Bool, true, false, List, Option, None, Some, codes, bytes_eq, if◌then◌else◌}
use Rattle.std.specs.Option.{option_map}
use Rattle.sv_exchange.specs.declared.session_queries.HeldSession.{HeldSession}
use Rattle.sv_session.specs.declared.event.Event.{Event}
use Rattle.sv_session.specs.declared.event.Event.TheVariants.{SessionCreated, SessionIdChanged}
use Rattle.sv_login.specs.declared.outcome.Outcome.{Outcome}
use Rattle.sv_login.specs.declared.outcome.Outcome.TheVariants.{Protected, LoggedIn, LoginFailed, NoSession, Entered, SentToLogin, NoLogin, Denied}
use Rattle.sv_realm.specs.declared.account.User.{User}
use Rattle.sv_session.specs.Calls.{opened, opening_faults, with_saved}
use Rattle.sv_session.specs.Runs.{unless}
use Rattle.sv_session.specs.Store.{Store}
use Rattle.sv_tree.specs.FileServlet.{sent_to}
use Rattle.sv_exchange.specs.Asked.{Asked}
use Rattle.sv_admission.specs.Held.{caller_held}

-- The sessions, the session of the message, whether the message opened or renamed it, and the event of doing so.
pub record Settled : Type 0 where
  pub store : Store
  pub session : Option ℕ
  pub is_renewed : Bool
  pub event : Option Event

abbrev pub unchanged : Option ℕ → Store → Settled
unchanged session store = record { store = store; session = session; is_renewed = false; event = None }

-- A login renames the held session, or opens one if none is held.
abbrev pub renewal : Option ℕ → ℕ → Event
renewal None number = SessionCreated number
renewal (Some held) number = SessionIdChanged number

abbrev pub renewed : Option ℕ → ℕ → Store → Settled
renewed held number store = record { store = store; session = Some number; is_renewed = true; event = Some (renewal held number) }

-- A session is opened, and a target is saved in it.
abbrev pub opened_with : Asked → List ℕ → Store → Settled
opened_with asked target store = record {
  store = with_saved (store.serial + 1) (Some target) (opened asked.words asked.moment store);
  session = Some (store.serial + 1);
  is_renewed = true;
  event = Some (SessionCreated (store.serial + 1));
}

-- The target is saved in the held session, or in a new one if none is held and one can be opened.
abbrev pub saved_in : Asked → List ℕ → Option ℕ → Store → Settled
saved_in asked target (Some number) store = unchanged (Some number) (with_saved number (Some target) store)
saved_in asked target None store = unless (opening_faults store) (opened_with asked target store) (unchanged None store)

-- The target of a GET is saved, so that a login can return to it. Other methods save nothing.
abbrev pub interrupted : List ℕ → Asked → Option ℕ → Store → Settled
interrupted context_path asked session store =
    if bytes_eq asked.message.method (codes "GET")
    then saved_in asked (sent_to context_path asked.canon.path asked.canon.query) session store
    else unchanged session store

-- The sessions after a message, by its outcome.
abbrev pub settled_by : List ℕ → Asked → Option ℕ → Outcome → Store → Settled
settled_by context_path asked session Protected store = unchanged session store
settled_by context_path asked session (LoggedIn number target) store = renewed session number store
settled_by context_path asked session LoginFailed store = unchanged session store
settled_by context_path asked session NoSession store = unchanged session store
settled_by context_path asked session Entered store = unchanged session store
settled_by context_path asked session (SentToLogin why) store = interrupted context_path asked session store
settled_by context_path asked session (NoLogin why) store = unchanged session store
settled_by context_path asked session (Denied why) store = unchanged session store

-- The session with which the message is answered.
abbrev pub session_of : List User → Settled → Option HeldSession
session_of users settled =
    option_map (λ number. record { number = number; is_renewed = settled.is_renewed; caller = caller_held users (Some number) settled.store }) settled.session
