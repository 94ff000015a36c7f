-- Reading from left to right: the value at the front of bytes and the bytes after it, or nothing if they are damaged.
use Rattle.std.specs.Prelude.{◌≡◌, ℕ, zero, suc, ◌^◌, ◌==◌, Bool, nat_le, nat_lt, List, [], ◌∷◌, ◌++◌, length, take, drop, Option, None, Some, Result, Ok, Err, if◌then◌else◌}
use Rattle.std.specs.Int.{from_be_bytes, w64}
use Rattle.std.specs.Str.{bytes_eq, is_utf8}
use Rattle.sv_constraints.specs.declared.constraint.Auth.{Auth}
use Rattle.sv_constraints.specs.declared.constraint.Auth.TheVariants as auth
use Rattle.sv_constraints.specs.declared.constraint.Collection.{Collection}
use Rattle.sv_constraints.specs.declared.constraint.Constraint.{Constraint}
use Rattle.sv_constraints.specs.declared.constraint.Methods.{Methods}
use Rattle.sv_constraints.specs.declared.constraint.Methods.TheVariants as methods
use Rattle.sv_constraints.specs.declared.constraint.Transport.{Transport}
use Rattle.sv_constraints.specs.declared.constraint.Transport.TheVariants as transport
use Rattle.sv_mapping.specs.Pattern.{is_pattern}
use Rattle.sv_realm.specs.declared.account.User.{User}
use Rattle.sv_realm.specs.declared.realm.TheConstants.{MAX_USERS}
use Rattle.sv_saved_sessions.specs.Content.{magic_line}
use Rattle.sv_saved_sessions.specs.declared.reading_fault.ReadingFault.{ReadingFault}
use Rattle.sv_saved_sessions.specs.declared.reading_fault.ReadingFault.TheVariants.{NoMemory, Foreign, Damaged}
use Rattle.sv_lifecycle.specs.declared.suspended_context.SuspendedContext.{SuspendedContext}
use Rattle.sv_saved_sessions.specs.declared.head.Head.{Head}
use Rattle.sv_saved_sessions.specs.declared.saved_context.SavedContext.{SavedContext}
use Rattle.sv_session.specs.Restoring.{CanBeRestored, CanFollow, used_up_to}
use Rattle.sv_session.specs.Store.{Session, SessionsState, Store}
use Rattle.sv_session.specs.declared.slot.Attribute.{Attribute}

-- A reader, and what it reads.
abbrev pub Reader : Type 0 → Type 0
Reader A = List ℕ → Option (A × List ℕ)

infixl 10 ◌>>=◌
abbrev pub ◌>>=◌ : {A B : Type 0} → Option A → (A → Option B) → Option B
None >>= next = None
Some a >>= next = next a

-- The function read the value that the definition reads, unless memory ran out.
abbrev pub Fails : {B : Type 0} → ReadingFault → Option B → Type 0
Fails NoMemory read = Unit {0}
Fails Damaged read = read ≡ None
Fails Foreign read = ⊥

abbrev pub Gives : {A : Type 0} → Result A ReadingFault → List ℕ → Option (A × List ℕ) → Type 0
Gives (Ok value) after read = read ≡ Some (value, after)
Gives (Err fault) after read = Fails fault read

-- The same for bytes that are borrowed.
abbrev pub GivesBytes : {B : Type 0} → (B → List ℕ) → Result B ReadingFault → List ℕ → Option (List ℕ × List ℕ) → Type 0
GivesBytes seen (Ok bytes) after read = read ≡ Some (seen bytes, after)
GivesBytes seen (Err fault) after read = Fails fault read

-- Nothing, a value and then another, a value in another form, and a value that passes a test.
abbrev pub nothing_at : Reader (Unit {0})
nothing_at bytes = Some (tt, bytes)

abbrev pub pair_at : {A B : Type 0} → Reader A → Reader B → Reader (A × B)
pair_at first second bytes = first bytes >>= λ a. second a.1 >>= λ b. Some ((a.0, b.0), b.1)

abbrev pub form_at : {A B : Type 0} → (A → B) → Reader A → Reader B
form_at form reader bytes = reader bytes >>= λ a. Some (form a.0, a.1)

abbrev pub test_at : {A : Type 0} → (A → Bool) → Reader A → Reader A
test_at test reader bytes = reader bytes >>= λ a. if test a.0 then Some a else None

-- So many bytes.
unfoldable pub bytes_at : ℕ → Reader (List ℕ)
bytes_at count bytes = if nat_lt (length bytes) count then None else Some (take count bytes, drop count bytes)

unfoldable pub byte_at : Reader ℕ
byte_at [] = None
byte_at (byte ∷ rest) = Some (byte, rest)

unfoldable pub number_at : Reader ℕ
number_at bytes = form_at (from_be_bytes w64) (bytes_at 8) bytes

unfoldable pub byte_string_at : Reader (List ℕ)
byte_string_at bytes = number_at bytes >>= λ count. bytes_at count.0 count.1

unfoldable pub text_at : Reader (List ℕ)
text_at bytes = test_at is_utf8 byte_string_at bytes

unfoldable pub option_at : {A : Type 0} → Reader A → Reader (Option A)
option_at reader bytes =
    byte_at bytes >>= λ tag.
    if tag.0 == 0 then Some (None, tag.1) else if tag.0 == 1 then form_at Some reader tag.1 else None

unfoldable pub items_at : {A : Type 0} → Reader A → ℕ → Reader (List A)
items_at reader zero bytes = Some ([], bytes)
items_at reader (suc count) bytes = reader bytes >>= λ first. items_at reader count first.1 >>= λ others. Some (first.0 ∷ others.0, others.1)

unfoldable pub list_at : {A : Type 0} → Reader A → Reader (List A)
list_at reader bytes = number_at bytes >>= λ count. items_at reader count.0 count.1

-- The parts of the content, in its order.
unfoldable pub magic_at : Reader (Unit {0})
magic_at bytes = form_at (λ line. tt) (test_at (λ line. bytes_eq line magic_line) (bytes_at (length magic_line))) bytes

unfoldable pub texts_at : Reader (List (List ℕ))
texts_at bytes = list_at text_at bytes

abbrev pub user_of : List ℕ × (List ℕ × (List ℕ × (List (List ℕ) × Unit {0}))) → User
user_of parts = record { name = parts.0; salt = parts.1.0; digest = parts.1.1.0; roles = parts.1.1.1.0 }

unfoldable pub user_at : Reader User
user_at bytes = form_at user_of (pair_at text_at (pair_at byte_string_at (pair_at byte_string_at (pair_at texts_at nothing_at)))) bytes

unfoldable pub users_at : Reader (List User)
users_at bytes = test_at (λ users. nat_le (length users) MAX_USERS) (list_at user_at) bytes

unfoldable pub pattern_at : Reader (List ℕ)
pattern_at bytes = test_at is_pattern text_at bytes

unfoldable pub methods_at : Reader Methods
methods_at bytes =
    byte_at bytes >>= λ tag.
    if tag.0 == 0 then Some (methods.All, tag.1)
    else if tag.0 == 1 then form_at methods.Only texts_at tag.1
    else if tag.0 == 2 then form_at methods.Except texts_at tag.1
    else None

abbrev pub collection_of : List (List ℕ) × (Methods × Unit {0}) → Collection
collection_of parts = record { patterns = parts.0; methods = parts.1.0 }

unfoldable pub collection_at : Reader Collection
collection_at bytes = form_at collection_of (pair_at (list_at pattern_at) (pair_at methods_at nothing_at)) bytes

unfoldable pub auth_at : Reader Auth
auth_at bytes =
    byte_at bytes >>= λ tag.
    if tag.0 == 0 then Some (auth.Absent, tag.1) else if tag.0 == 1 then form_at auth.Roles texts_at tag.1 else None

unfoldable pub transport_at : Reader Transport
transport_at bytes =
    byte_at bytes >>= λ tag.
    if tag.0 == 0 then Some (transport.Absent, tag.1)
    else if tag.0 == 1 then Some (transport.Plain, tag.1)
    else if tag.0 == 2 then Some (transport.Integral, tag.1)
    else if tag.0 == 3 then Some (transport.Confidential, tag.1)
    else None

abbrev pub constraint_of : ℕ × (List Collection × (Auth × (Transport × Unit {0}))) → Constraint
constraint_of parts = record { number = parts.0; collections = parts.1.0; auth = parts.1.1.0; transport = parts.1.1.1.0 }

unfoldable pub constraint_at : Reader Constraint
constraint_at bytes =
    form_at constraint_of (pair_at number_at (pair_at (list_at collection_at) (pair_at auth_at (pair_at transport_at nothing_at)))) bytes

abbrev pub attribute_of : List ℕ × (List ℕ × Unit {0}) → Attribute
attribute_of parts = record { name = parts.0; value = parts.1.0 }

unfoldable pub attribute_at : Reader Attribute
attribute_at bytes = form_at attribute_of (pair_at text_at (pair_at text_at nothing_at)) bytes

unfoldable pub caller_at : Reader ℕ
caller_at bytes = test_at (λ number. nat_lt number (2 ^ 32)) number_at bytes

abbrev pub session_of : ℕ × (List ℕ × (ℕ × (Option ℕ × (Option (List ℕ) × (List Attribute × Unit {0}))))) → Session
session_of parts = record {
  number = parts.0;
  id = parts.1.0;
  last_access = parts.1.1.0;
  caller = parts.1.1.1.0;
  saved = parts.1.1.1.1.0;
  attributes = parts.1.1.1.1.1.0;
}

unfoldable pub session_at : Reader Session
session_at bytes =
    form_at session_of (pair_at number_at (pair_at text_at (pair_at number_at (pair_at (option_at caller_at)
    (pair_at (option_at text_at) (pair_at (list_at attribute_at) nothing_at)))))) bytes

-- The content before the sessions, and the sessions.
abbrev pub head_of : Unit {0} × (List ℕ × (ℕ × (List User × (List Constraint × (List Constraint × (ℕ × (ℕ × Unit {0}))))))) → Head
head_of parts = record {
  path = parts.1.0;
  moment = parts.1.1.0;
  users = parts.1.1.1.0;
  declared = parts.1.1.1.1.0;
  constraints = parts.1.1.1.1.1.0;
  greatest = parts.1.1.1.1.1.1.0;
  serial = parts.1.1.1.1.1.1.1.0;
}

unfoldable pub head_at : Reader Head
head_at bytes =
    form_at head_of (pair_at magic_at (pair_at text_at (pair_at number_at (pair_at users_at (pair_at (list_at constraint_at)
    (pair_at (list_at constraint_at) (pair_at number_at (pair_at number_at nothing_at)))))))) bytes

unfoldable pub sessions_at : Reader (List Session)
sessions_at bytes = list_at session_at bytes

unfoldable pub session_items_at : ℕ → Reader (List Session)
session_items_at count bytes = items_at session_at count bytes

-- A store of these sessions, in which the serials up to one have been used.
abbrev pub store_of : ℕ → List Session → Store
store_of serial sessions = record (used_up_to serial) { sessions = sessions }

-- A state with other sessions.
abbrev pub with_sessions : SessionsState → List Session → SessionsState
with_sessions before sessions = record before { store = record before.store { sessions = sessions } }

-- A session was restored after the others, unless it cannot follow them or memory ran out.
abbrev pub RestoresSession : SessionsState → Session → Result (Unit {0}) ReadingFault → SessionsState → Type 0
RestoresSession before session (Ok done) after =
    CanFollow before.store session × (after ≡ with_sessions before (before.store.sessions ++ session ∷ []))
RestoresSession before session (Err NoMemory) after = Unit {0}
RestoresSession before session (Err Damaged) after = CanFollow before.store session → ⊥
RestoresSession before session (Err Foreign) after = ⊥

-- Sessions were read and restored in a store that was empty. They are damaged if they cannot be restored.
abbrev pub RestoresItems : SessionsState → Result (Unit {0}) ReadingFault → SessionsState → List ℕ → Option (List Session × List ℕ) → Type 0
RestoresItems before (Ok done) sessions after read =
    (read ≡ Some (sessions.store.sessions, after)) × (sessions ≡ with_sessions before sessions.store.sessions)
RestoresItems before (Err NoMemory) sessions after read = Unit {0}
RestoresItems before (Err Damaged) sessions after read =
    (items : List Session) (rest : List ℕ) → read ≡ Some (items, rest) → CanBeRestored (record before.store { sessions = items }) → ⊥
RestoresItems before (Err Foreign) sessions after read = ⊥

-- The same for a new store.
abbrev pub Restores : ℕ → Result SessionsState ReadingFault → List ℕ → Option (List Session × List ℕ) → Type 0
Restores serial (Ok sessions) after read =
    (read ≡ Some (sessions.store.sessions, after)) × CanBeRestored sessions.store
    × (sessions ≡ record { store = store_of serial sessions.store.sessions; judged = 0 })
Restores serial (Err NoMemory) after read = Unit {0}
Restores serial (Err Damaged) after read = (sessions : List Session) (rest : List ℕ) → read ≡ Some (sessions, rest) → CanBeRestored (store_of serial sessions) → ⊥
Restores serial (Err Foreign) after read = ⊥

-- A context with this head and these sessions.
abbrev pub context_of : Head → List Session → SuspendedContext
context_of head sessions = record {
  path = head.path;
  users = head.users;
  declared = head.declared;
  constraints = head.constraints;
  greatest = head.greatest;
  sessions = record { store = store_of head.serial sessions; judged = 0 };
}

-- The bytes are a head and sessions.
abbrev pub AreParts : List ℕ → Head → List Session → Type 0
AreParts bytes head sessions = (between : List ℕ) × (head_at bytes ≡ Some (head, between)) × (sessions_at between ≡ Some (sessions, []))

-- All of the bytes were read as a head and as sessions that can be restored, unless memory ran out.
abbrev pub ReadsParts : Result SavedContext ReadingFault → List ℕ → Type 0
ReadsParts (Ok saved) bytes =
    (head : Head) × (sessions : List Session) × AreParts bytes head sessions × CanBeRestored (store_of head.serial sessions)
    × (saved ≡ record { moment = head.moment; context = context_of head sessions })
ReadsParts (Err NoMemory) bytes = Unit {0}
ReadsParts (Err Damaged) bytes = (head : Head) (sessions : List Session) → AreParts bytes head sessions → CanBeRestored (store_of head.serial sessions) → ⊥
ReadsParts (Err Foreign) bytes = ⊥
