-- Sessions that are restored one after another.
use Rattle.std.proofs.Common.{◌≡◌, ℕ, ◌-◌, ◌+◌, ◌<◌, ◌≤◌, List, [], ◌∷◌, ◌++◌, Option, None, Some, Ok, Err, refl, sym, ap, subst, ◌∙◌}
use Rattle.sv_session.specs.Restoring.{CanBeRestored, CanFollow, used_up_to}
use Rattle.sv_session.specs.Store.{Session, SessionsState}
use Rattle.sv_saved_sessions.specs.declared.reading_fault.ReadingFault.{ReadingFault}
use Rattle.sv_saved_sessions.specs.declared.reading_fault.ReadingFault.TheVariants as faults
use Rattle.sv_saved_sessions.specs.Reading.{◌>>=◌, Fails, Restores, RestoresItems, RestoresSession, items_at, list_at, number_at, session_at, session_items_at, sessions_at, with_sessions}
use Rattle.sv_saved_sessions.proofs.Loop.{begins, ends, goes_on, is_done, next_of_all, with_front}

-- What the loop keeps.
abbrev pub IsRestoredSoFar : SessionsState → ℕ → ℕ → List ℕ → SessionsState → List ℕ → Type 0
IsRestoredSoFar before count counter bytes sessions rest =
    (with_front sessions.store.sessions (session_items_at (count - counter) rest) ≡ session_items_at count bytes)
    × (sessions ≡ with_sessions before sessions.store.sessions)

pub begun : (before : SessionsState) (count : ℕ) (bytes : List ℕ) → before.store.sessions ≡ [] → IsRestoredSoFar before count 0 bytes before bytes
unfolding session_items_at
begun before count bytes none = (rw none (begins session_at count bytes), refl)

sessions_of : SessionsState → List Session
sessions_of state = state.store.sessions

pub one_more : (before : SessionsState) (count counter : ℕ) (bytes : List ℕ) (sessions after : SessionsState) (rest behind : List ℕ) (session : Session)
    → IsRestoredSoFar before count counter bytes sessions rest → counter < count → session_at rest ≡ Some (session, behind)
    → after ≡ with_sessions sessions (sessions.store.sessions ++ session ∷ [])
    → IsRestoredSoFar before count (counter + 1) bytes after behind
unfolding session_items_at sessions_of
one_more before count counter bytes sessions after rest behind session so_far lt read is =
    let last : after.store.sessions ≡ sessions.store.sessions ++ session ∷ [] = ap sessions_of is in (
      rw last (goes_on session_at sessions.store.sessions count counter rest session behind (items_at session_at count bytes) lt read so_far.0),
      is ∙ ap (λ (state : SessionsState). with_sessions state (sessions.store.sessions ++ session ∷ [])) so_far.1 ∙ ap (with_sessions before) (sym last),
    )

-- A fault of reading, and one of restoring.
pub refused : (fault : ReadingFault) (before sessions : SessionsState) (rest : List ℕ) (read : Option (List Session × List ℕ))
    → Fails fault read → RestoresItems before (Err fault) sessions rest read
refused faults.NoMemory before sessions rest read fails = tt
refused faults.Damaged before sessions rest read fails = λ items after is restorable. absurd (let e : None ≡ Some (items, after) = sym fails ∙ is in cc)
refused faults.Foreign before sessions rest read fails = fails

pub refused_at : (before : SessionsState) (count counter : ℕ) (bytes : List ℕ) (sessions last : SessionsState) (rest behind : List ℕ) (fault : ReadingFault)
    → IsRestoredSoFar before count counter bytes sessions rest → counter < count → Fails fault (session_at rest)
    → RestoresItems before (Err fault) last behind (session_items_at count bytes)
unfolding session_items_at
refused_at before count counter bytes sessions last rest behind fault so_far lt fails =
    refused fault before last behind (items_at session_at count bytes) (ends fault session_at sessions.store.sessions count counter rest (items_at session_at count bytes) lt fails so_far.0)

pub unfit : (before : SessionsState) (count counter : ℕ) (bytes : List ℕ) (sessions last : SessionsState) (rest behind : List ℕ) (session : Session) (fault : ReadingFault)
    → IsRestoredSoFar before count counter bytes sessions rest → counter < count → session_at rest ≡ Some (session, behind)
    → RestoresSession sessions session (Err fault) last → RestoresItems before (Err fault) last behind (session_items_at count bytes)
unfolding session_items_at
unfit before count counter bytes sessions last rest behind session faults.NoMemory so_far lt read fails = tt
unfit before count counter bytes sessions last rest behind session faults.Foreign so_far lt read fails = fails
unfit before count counter bytes sessions last rest behind session faults.Damaged so_far lt read fails = λ items after is restorable.
    let others = next_of_all session_at sessions.store.sessions count counter rest session behind (items_at session_at count bytes) lt read so_far.0 items after is in
    let follows : CanFollow (record before.store { sessions = sessions.store.sessions }) session = restorable.1 sessions.store.sessions session others.0 others.1 in
    fails (subst (λ (state : SessionsState). CanFollow state.store session) (sym so_far.1) follows)

pub all_restored : (before : SessionsState) (count counter : ℕ) (bytes : List ℕ) (sessions : SessionsState) (rest : List ℕ)
    → IsRestoredSoFar before count counter bytes sessions rest → count ≤ counter
    → RestoresItems before (Ok tt) sessions rest (session_items_at count bytes)
unfolding session_items_at
all_restored before count counter bytes sessions rest so_far le =
    (is_done session_at sessions.store.sessions count counter rest (items_at session_at count bytes) le so_far.0, so_far.1)

-- ---- the number of sessions, and the sessions

pub uncounted : (fault : ReadingFault) (serial : ℕ) (bytes rest : List ℕ) → Fails fault (number_at bytes) → Restores serial (Err fault) rest (sessions_at bytes)
unfolding sessions_at list_at
uncounted faults.NoMemory serial bytes rest fails = tt
uncounted faults.Foreign serial bytes rest fails = fails
uncounted faults.Damaged serial bytes rest fails = λ items after is restorable.
    let none : (number_at bytes >>= λ count. items_at session_at count.0 count.1) ≡ None = rw fails refl in
    absurd (let e : None ≡ Some (items, after) = sym none ∙ is in cc)

counted : (bytes after : List ℕ) (count : ℕ) → number_at bytes ≡ Some (count, after) → sessions_at bytes ≡ session_items_at count after
unfolding sessions_at list_at session_items_at
counted bytes after count is = rw is refl

abbrev pub new_sessions : ℕ → SessionsState
new_sessions serial = record { store = used_up_to serial; judged = 0 }

pub refused_all : (fault : ReadingFault) (serial count : ℕ) (bytes after rest : List ℕ) (before last : SessionsState) → before ≡ new_sessions serial → number_at bytes ≡ Some (count, after)
    → RestoresItems before (Err fault) last rest (session_items_at count after) → Restores serial (Err fault) rest (sessions_at bytes)
refused_all faults.NoMemory serial count bytes after rest before last new is fails = tt
refused_all faults.Foreign serial count bytes after rest before last new is fails = fails
refused_all faults.Damaged serial count bytes after rest before last new is fails = λ items behind read restorable.
    fails items behind (sym (counted bytes after count is) ∙ read) (subst (λ (state : SessionsState). CanBeRestored (record state.store { sessions = items })) (sym new) restorable)

pub restored : (serial count : ℕ) (bytes after rest : List ℕ) (before sessions : SessionsState) → before ≡ new_sessions serial → number_at bytes ≡ Some (count, after)
    → RestoresItems before (Ok tt) sessions rest (session_items_at count after) → CanBeRestored sessions.store → Restores serial (Ok sessions) rest (sessions_at bytes)
restored serial count bytes after rest before sessions new is read restorable =
    (counted bytes after count is ∙ read.0, restorable, read.1 ∙ ap (λ (state : SessionsState). with_sessions state sessions.store.sessions) new)
