-- Jakarta Servlet 6.0, chapter 7: the result of each call on the sessions of a context, and the sessions after it.
use Rattle.std.specs.Prelude.{◌≡◌, ℕ, ◌+◌, ◌∷◌, Bool, true, false, ◌||◌, ◌&&◌, not, ◌==◌, nat_lt, nat_le, List, [], ◌++◌, length, map, min, Option, None, Some, is_none, slice_get}
use Rattle.std.specs.List.{list_any, reduce}
use Rattle.std.specs.Option.{option_map, option_map_or, option_and_then}
use Rattle.sv_text.specs.Faults.{when}
use Rattle.sv_session.specs.declared.slot.Attribute.{Attribute}
use Rattle.sv_session.specs.declared.ended_sessions.EndedSession.{EndedSession}
use Rattle.sv_session.specs.declared.session_fault.SessionFault.{SessionFault}
use Rattle.sv_session.specs.declared.session_fault.SessionFault.TheVariants.{TooMany, SerialSpent, NoSuch, NoMemory, TooLarge}
use Rattle.sv_session.specs.declared.limits.TheConstants.{MAX_ATTRIBUTES, MAX_ATTRIBUTE_NAME_BYTES, MAX_VALUE_BYTES, GREATEST_SERIAL}
use Rattle.sv_session.specs.Attributes.{names_one, with_named, without_named, value_named}
use Rattle.sv_session.specs.Expiry.{first_expired}
use Rattle.sv_session.specs.Id.{id_text}
use Rattle.sv_session.specs.Lists.{without_first}
use Rattle.sv_session.specs.Store.{Session, Store, is_numbered, numbered, attributes_of, changed}

-- A refusal gives the first of the faults and changes nothing. Out of memory is given only if there is no other fault.
abbrev pub RefusesCall : {A : Type 0} → List SessionFault → SessionFault → A → A → Type 0
RefusesCall faults NoMemory before after = (faults ≡ []) × (after ≡ before)
RefusesCall faults fault before after = (slice_get faults 0 ≡ Some fault) × (after ≡ before)

-- The greatest serial has been used.
abbrev pub is_spent : Store → Bool
is_spent store = store.serial == GREATEST_SERIAL

-- A session is opened: its number is the next serial, and it counts as accessed.
abbrev pub opening_faults : Store → List SessionFault
opening_faults store = when (nat_le store.limit (length store.sessions)) TooMany ++ when (is_spent store) SerialSpent

abbrev pub session_opened : ℕ × ℕ → ℕ → ℕ → Session
session_opened words serial now =
    record { number = serial; id = id_text words serial; last_access = now; caller = None; saved = None; attributes = [] }

abbrev pub opened : ℕ × ℕ → ℕ → Store → Store
opened words now store =
    record store { serial = store.serial + 1; sessions = store.sessions ++ session_opened words (store.serial + 1) now ∷ [] }

-- No live session has the number.
abbrev pub missing : ℕ → Store → List SessionFault
missing number store = when (is_none (numbered number store)) NoSuch

-- A session gets a new id, of the next serial.
abbrev pub renaming_faults : ℕ → Store → List SessionFault
renaming_faults number store = missing number store ++ when (is_spent store) SerialSpent

abbrev pub renamed : ℕ → ℕ × ℕ → Store → Store
renamed number words store =
    record (changed number (λ session. record session { id = id_text words (store.serial + 1) }) store) { serial = store.serial + 1 }

abbrev pub id_of : ℕ → Store → Option (List ℕ)
id_of number store = option_map (λ session. session.id) (numbered number store)

-- A session is accessed.
abbrev pub touched : ℕ → ℕ → Store → Store
touched number now = changed number (λ session. record session { last_access = now })

-- Its caller, and the target of the request that a login interrupted.
abbrev pub with_caller : ℕ → Option ℕ → Store → Store
with_caller number caller = changed number (λ session. record session { caller = caller })

abbrev pub with_saved : ℕ → Option (List ℕ) → Store → Store
with_saved number saved = changed number (λ session. record session { saved = saved })

abbrev pub caller_of : ℕ → Store → Option ℕ
caller_of number store = option_and_then (λ session. session.caller) (numbered number store)

abbrev pub saved_of : ℕ → Store → Option (List ℕ)
saved_of number store = option_and_then (λ session. session.saved) (numbered number store)

-- A session has this number and this caller.
abbrev pub is_held_by : ℕ → ℕ → Session → Bool
is_held_by number caller session = session.number == number && option_map_or (λ own. own == caller) session.caller false

abbrev pub HoldsCaller : ℕ → ℕ → Store → Type 0
HoldsCaller number caller store = list_any (is_held_by number caller) store.sessions ≡ true

-- Its attributes.
abbrev pub is_too_large : List ℕ → List ℕ → List Attribute → Bool
is_too_large name value attributes =
    nat_lt MAX_ATTRIBUTE_NAME_BYTES (length name) || nat_lt MAX_VALUE_BYTES (length value)
    || (nat_le MAX_ATTRIBUTES (length attributes) && not (names_one name attributes))

abbrev pub setting_faults : ℕ → List ℕ → List ℕ → Store → List SessionFault
setting_faults number name value store = missing number store ++ when (is_too_large name value (attributes_of number store)) TooLarge

abbrev pub with_attribute : ℕ → List ℕ → List ℕ → Store → Store
with_attribute number name value = changed number (λ session. record session { attributes = with_named name value session.attributes })

abbrev pub without_attribute : ℕ → List ℕ → Store → Store
without_attribute number name = changed number (λ session. record session { attributes = without_named name session.attributes })

abbrev pub value_of : ℕ → List ℕ → Store → Option (List ℕ)
value_of number name store = value_named name (attributes_of number store)

-- The end of a session.
abbrev pub ended : Session → EndedSession
ended session = record { number = session.number; attributes = session.attributes }

abbrev pub ending : ℕ → Store → Option EndedSession
ending number store = option_map ended (numbered number store)

abbrev pub without : ℕ → Store → Store
without number store = record store { sessions = without_first (is_numbered number) store.sessions }

-- The end of the first session that has expired at a time.
abbrev pub expired_number : ℕ → Store → Option ℕ
expired_number now store = option_map (λ session. session.number) (first_expired now store)

abbrev pub expiring : ℕ → Store → Option EndedSession
expiring now store = option_and_then (λ number. ending number store) (expired_number now store)

abbrev pub left_by_expiry : ℕ → Store → Store
left_by_expiry now store = option_map_or (λ number. without number store) (expired_number now store) store

-- The number of records judged after an expiry: one more if there is a session, up to the maximum.
abbrev pub judged_among : List Session → ℕ → ℕ
judged_among [] judged = judged
judged_among (session ∷ sessions) judged = min (judged + 1) 18446744073709551615

abbrev pub judged_by_expiry : Store → ℕ → ℕ
judged_by_expiry store judged = judged_among store.sessions judged

-- The lowest number of a session.
abbrev pub least_number : Store → Option ℕ
least_number store = reduce min (map (λ session. session.number) store.sessions)
