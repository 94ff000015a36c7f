-- Jakarta Servlet 6.0, chapter 7: theorems about the calls on the sessions of a context.
use Rattle.std.specs.Prelude.{◌≡◌, ◌≢◌, ◌↔◌, ◌⊎◌, ◌<◌, ◌≤◌, ℕ, ◌+◌, false, List, [], ◌∷◌, length, Some, None, map}
use Rattle.std.specs.List.{AllPairs}
use Rattle.sv_session.specs.declared.ended_sessions.EndedSession.{EndedSession}
use Rattle.sv_session.specs.declared.session_fault.SessionFault.TheVariants.{SerialSpent}
use Rattle.sv_session.specs.Id.{id_text}
use Rattle.sv_session.specs.declared.limits.TheConstants.{GREATEST_SERIAL}
use Rattle.sv_session.specs.Calls.{HoldsCaller, caller_of, ended, expiring, judged_by_expiry, opening_faults, renaming_faults, session_opened, touched}
use Rattle.sv_session.specs.Expiry.{HasNoneExpired, by_deadline, expired, has_expired, unexpired}
use Rattle.sv_session.specs.Runs.{Call, EnterCaller, Expires, IsAt, MovedByComponents, ids_given, left_after, left_by}
use Rattle.sv_session.specs.Store.{IsOrderly, Session, Store, empty_store, number_of, numbered}

-- No two ids that a context gives are the same, for any calls.
abbrev pub NoIdIsGivenTwice : Type 0
NoIdIsGivenTwice = (limit interval : ℕ) (calls : List Call) → AllPairs (λ a b. a ≢ b) (ids_given calls (empty_store limit interval))

-- The ids were made with the serials above one, up to another, each with the next.
abbrev pub AreOfSerials : ℕ → ℕ → List (List ℕ) → Type 0
AreOfSerials serial last [] = last ≡ serial
AreOfSerials serial last (id ∷ ids) =
    (words : ℕ × ℕ) × (id ≡ id_text words (serial + 1)) × (serial + 1 ≤ GREATEST_SERIAL) × AreOfSerials (serial + 1) last ids

-- From any store, each id that calls give is made with the next serial.
abbrev pub EachIdHasTheNextSerial : Type 0
EachIdHasTheNextSerial = (calls : List Call) (store : Store) → store.serial ≤ GREATEST_SERIAL
    → AreOfSerials store.serial (left_after calls store).serial (ids_given calls store)

-- Such ids differ.
abbrev pub IdsOfSerialsDiffer : Type 0
IdsOfSerialsDiffer = (serial last : ℕ) (ids : List (List ℕ)) → AreOfSerials serial last ids → AllPairs (λ a b. a ≢ b) ids

-- Each live session is found by its own id.
abbrev pub IdNamesItsSession : Type 0
IdNamesItsSession = (limit interval : ℕ) (calls : List Call) (number : ℕ) (session : Session)
    → numbered number (left_after calls (empty_store limit interval)) ≡ Some session
    → number_of session.id (left_after calls (empty_store limit interval)) ≡ Some number

-- After the greatest serial, no session is opened or renamed.
abbrev pub NoneFollowsTheGreatest : Type 0
NoneFollowsTheGreatest = (store : Store) → store.serial ≡ 18446744073709551615
    → (length store.sessions < store.limit → opening_faults store ≡ SerialSpent ∷ [])
    × ((number : ℕ) (session : Session) → numbered number store ≡ Some session → renaming_faults number store ≡ SerialSpent ∷ [])

-- The sessions are in order initially, and each call keeps the order.
abbrev pub EmptyIsOrderly : Type 0
EmptyIsOrderly = (limit interval : ℕ) → IsOrderly (empty_store limit interval)

abbrev pub CallsLeaveOrder : Type 0
CallsLeaveOrder = (call : Call) (store : Store) → IsOrderly store → IsOrderly (left_by call store)

-- A session that is opened or accessed at a time has not expired at that time.
abbrev pub OpenedHasNotExpired : Type 0
OpenedHasNotExpired = (words : ℕ × ℕ) (interval serial now : ℕ) → has_expired interval now (session_opened words serial now) ≡ false

abbrev pub TouchedHasNotExpired : Type 0
TouchedHasNotExpired = (number now : ℕ) (store : Store) (session : Session) → numbered number (touched number now store) ≡ Some session
    → has_expired store.interval now session ≡ false

-- If no session has expired at a time, none has expired after a call at that time.
abbrev pub CallsLeaveNoneExpired : Type 0
CallsLeaveNoneExpired = (now : ℕ) (call : Call) (store : Store) → IsAt now call → HasNoneExpired now store → HasNoneExpired now (left_by call store)

-- `expire` ends no session exactly if none has expired.
abbrev pub ExpiryEndsWhereNoneHasExpired : Type 0
ExpiryEndsWhereNoneHasExpired = (now : ℕ) (store : Store) → (expiring now store ≡ None) ↔ HasNoneExpired now store

-- Called until it ends none, it ends exactly the expired sessions, by deadline and then by number. The others are
-- unchanged.
abbrev pub ExpiryEndsTheExpired : Type 0
ExpiryEndsTheExpired = (now : ℕ) (before after : Store) (sessions : List EndedSession) → IsOrderly before → Expires now before sessions after
    → (sessions ≡ map ended (by_deadline before.interval (expired now before))) × (after ≡ record before { sessions = unexpired now before })

-- Called again at the same time, it ends none.
abbrev pub ExpiryEndsNoneAgain : Type 0
ExpiryEndsNoneAgain = (now : ℕ) (before after : Store) (sessions : List EndedSession) → Expires now before sessions after → expiring now after ≡ None

-- It judges one record if there is a session, and none otherwise. A count at the maximum stays there.
abbrev pub ExpiryJudgesAtMostOneMore : Type 0
ExpiryJudgesAtMostOneMore = (store : Store) (judged : ℕ)
    → (store.sessions ≡ [] → judged_by_expiry store judged ≡ judged)
    × (store.sessions ≢ [] → judged < 18446744073709551615 → judged_by_expiry store judged ≡ judged + 1)
    × (judged ≡ 18446744073709551615 → judged_by_expiry store judged ≡ judged)

-- A session gets a caller only by the call that enters one.
abbrev pub CallersAreEntered : Type 0
CallersAreEntered = (call : Call) (store : Store) (number caller : ℕ) → HoldsCaller number caller (left_by call store)
    → HoldsCaller number caller store ⊎ (call ≡ EnterCaller number (Some caller))

-- In an orderly store, the session that holds a caller is the one found by its number.
abbrev pub HoldersAreFound : Type 0
HoldersAreFound = (store : Store) → IsOrderly store → (number caller : ℕ) → HoldsCaller number caller store ↔ (caller_of number store ≡ Some caller)

-- Successive changes by components are also one change.
abbrev pub MovesJoin : Type 0
MovesJoin = (now : ℕ) (before between after : Store)
    → MovedByComponents now before between → MovedByComponents now between after → MovedByComponents now before after

-- Components keep the order. At the time of their changes, no session has expired if none had before, and each
-- session's caller is one that it had before.
abbrev pub MovesLeaveOrder : Type 0
MovesLeaveOrder = (now : ℕ) (before after : Store) → MovedByComponents now before after → IsOrderly before → IsOrderly after

abbrev pub MovesLeaveNoneExpired : Type 0
MovesLeaveNoneExpired = (now : ℕ) (before after : Store) → MovedByComponents now before after → HasNoneExpired now before → HasNoneExpired now after

abbrev pub MovesGiveNoCaller : Type 0
MovesGiveNoCaller = (now : ℕ) (before after : Store) → MovedByComponents now before after
    → (number caller : ℕ) → HoldsCaller number caller after → HoldsCaller number caller before
