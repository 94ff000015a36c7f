-- Jakarta Servlet 6.0, chapter 7: sessions that outlive a restart.
use Rattle.std.specs.Prelude.{◌≡◌, ℕ, ◌<◌, ◌≤◌, nat_lt, min, max, List, [], ◌∷◌, ◌++◌, Option, find}
use Rattle.std.specs.List.{AllByRecursion}
use Rattle.sv_session.specs.declared.limits.TheConstants.{GREATEST_SERIAL}
use Rattle.sv_session.specs.declared.restore_fault.RestoreFault.{RestoreFault}
use Rattle.sv_session.specs.declared.restore_fault.RestoreFault.TheVariants.{NoMemory, Unfit}
use Rattle.sv_session.specs.Ids.{IsGiven, NoneHas}
use Rattle.sv_session.specs.Store.{Session, Store}

-- The first session with a higher number.
abbrev pub session_after : ℕ → Store → Option Session
session_after number store = find (λ session. nat_lt number session.number) store.sessions

-- A store of no session, in which the serials up to one have been used.
abbrev pub used_up_to : ℕ → Store
used_up_to serial = record { limit = 0; interval = 0; serial = serial; sessions = [] }

-- The store, in which the serials up to one have been used, too.
abbrev pub with_used : ℕ → Store → Store
with_used serial store = record store { serial = min (max store.serial serial) GREATEST_SERIAL }

-- A session can follow those of a store. Its number is above theirs. Its number and its id are of serials that have been
-- used. No session has its id.
pub record CanFollow (store : Store) (session : Session) : Type 0 where
  pub above : AllByRecursion (λ other. other.number < session.number) store.sessions
  pub positive : 0 < session.number
  pub used : session.number ≤ store.serial
  pub given : IsGiven store.serial session.id
  pub differs : NoneHas session.id store.sessions

-- The sessions with one more.
abbrev pub with_last : Session → Store → Store
with_last session store = record store { sessions = store.sessions ++ session ∷ [] }

-- Each session can follow those before it, so they can be restored one after another.
abbrev pub CanBeRestored : Store → Type 0
CanBeRestored store =
    (store.serial ≤ GREATEST_SERIAL)
    × ((front : List Session) (session : Session) (rest : List Session) → store.sessions ≡ front ++ session ∷ rest
    → CanFollow (record store { sessions = front }) session)

-- A session is unfit only if it cannot follow the others. Memory may run out for any session.
abbrev pub RefusesRestore : Store → Session → RestoreFault → Type 0
RefusesRestore store session Unfit = CanFollow store session → ⊥
RefusesRestore store session NoMemory = Unit {0}
