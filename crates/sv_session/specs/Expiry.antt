-- Jakarta Servlet 6.0, section 7.5: when sessions expire, and their order.
use Rattle.std.specs.Prelude.{◌≡◌, ℕ, ◌+◌, ◌-◌, Bool, false, not, ◌&&◌, ◌||◌, ◌==◌, nat_lt, nat_le, List, [], ◌∷◌, Option, filter, if◌then◌else◌}
use Rattle.std.specs.List.{list_any, reduce}
use Rattle.sv_session.specs.Store.{Session, Store}

-- The session was not accessed for the interval, in seconds, up to the time `now`. An interval of 0 means that it never
-- expires.
abbrev pub has_expired : ℕ → ℕ → Session → Bool
has_expired interval now session = nat_lt 0 interval && nat_le interval (now - session.last_access)

abbrev pub deadline : ℕ → Session → ℕ
deadline interval session = session.last_access + interval

-- An earlier deadline, or the same deadline and a lower number.
abbrev pub ends_before : ℕ → Session → Session → Bool
ends_before interval a b =
    nat_lt (deadline interval a) (deadline interval b) || (deadline interval a == deadline interval b && nat_lt a.number b.number)

abbrev pub earlier : ℕ → Session → Session → Session
earlier interval a b = if ends_before interval b a then b else a

-- No session has expired at a time.
abbrev pub HasNoneExpired : ℕ → Store → Type 0
HasNoneExpired now store = list_any (has_expired store.interval now) store.sessions ≡ false

-- The expired sessions, and the others.
abbrev pub expired : ℕ → Store → List Session
expired now store = filter (has_expired store.interval now) store.sessions

abbrev pub unexpired : ℕ → Store → List Session
unexpired now store = filter (λ session. not (has_expired store.interval now session)) store.sessions

-- The first of the expired sessions.
abbrev pub first_expired : ℕ → Store → Option Session
first_expired now store = reduce (earlier store.interval) (expired now store)

-- A session inserted into a list that is in the order of `ends_before`.
abbrev pub put_in_order : ℕ → Session → List Session → List Session
put_in_order interval session [] = session ∷ []
put_in_order interval session (other ∷ others) =
    if ends_before interval other session then other ∷ put_in_order interval session others else session ∷ other ∷ others

-- The sessions by deadline and then by number.
abbrev pub by_deadline : ℕ → List Session → List Session
by_deadline interval [] = []
by_deadline interval (session ∷ sessions) = put_in_order interval session (by_deadline interval sessions)
