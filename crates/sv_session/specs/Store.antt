-- Jakarta Servlet 6.0, chapter 7: the sessions of a context, as a list of records in the order they were opened.
use Rattle.std.specs.Prelude.{ℕ, ◌<◌, ◌≤◌, Bool, ◌==◌, List, [], ◌∷◌, Option, find}
use Rattle.std.specs.Option.{option_map, option_map_or}
use Rattle.std.specs.Str.{bytes_eq}
use Rattle.sv_session.specs.declared.slot.Attribute.{Attribute}
use Rattle.sv_session.specs.Lists.{on_first}

-- A session. The caller is the number of a user of the realm. The saved target is that of the request that a login
-- interrupted.
pub record Session : Type 0 where
  pub number : ℕ
  pub id : List ℕ
  pub last_access : ℕ
  pub caller : Option ℕ
  pub saved : Option (List ℕ)
  pub attributes : List Attribute

-- The store holds at most `limit` sessions. A session expires after `interval` seconds without an access, or never if
-- the interval is 0. The serial is the last that was used.
pub record Store : Type 0 where
  pub limit : ℕ
  pub interval : ℕ
  pub serial : ℕ
  pub sessions : List Session

-- The sessions of a context: the store, and the number of records that expiries have judged so far.
pub record SessionsState : Type 0 where
  pub store : Store
  pub judged : ℕ

abbrev pub empty_store : ℕ → ℕ → Store
empty_store limit interval = record { limit = limit; interval = interval; serial = 0; sessions = [] }

abbrev pub is_numbered : ℕ → Session → Bool
is_numbered number session = session.number == number

abbrev pub has_id : List ℕ → Session → Bool
has_id id session = bytes_eq session.id id

-- The live session of a number.
abbrev pub numbered : ℕ → Store → Option Session
numbered number store = find (is_numbered number) store.sessions

-- Its attributes.
abbrev pub attributes_of : ℕ → Store → List Attribute
attributes_of number store = option_map_or (λ session. session.attributes) (numbered number store) []

-- The number of the session with an id.
abbrev pub number_of : List ℕ → Store → Option ℕ
number_of id store = option_map (λ session. session.number) (find (has_id id) store.sessions)

-- Only the session of the number changes.
abbrev pub changed : ℕ → (Session → Session) → Store → Store
changed number change store = record store { sessions = on_first (is_numbered number) change store.sessions }

-- The numbers increase strictly. All are above the first bound and at most the second.
abbrev pub NumbersRise : ℕ → ℕ → List Session → Type 0
NumbersRise low high [] = low ≤ high
NumbersRise low high (session ∷ sessions) = (low < session.number) × NumbersRise session.number high sessions

-- The sessions are in the order of their numbers, and no number is above the serial.
abbrev pub IsOrderly : Store → Type 0
IsOrderly store = NumbersRise 0 store.serial store.sessions
