-- Copies of the sessions of a store, made a part at a time while the store changes between the parts.
use Rattle.std.specs.Prelude.{◌≡◌, ℕ, ◌≤◌, nat_lt, List, [], ◌∷◌, ◌++◌, take, filter, Option}
use Rattle.std.specs.List.{AllByRecursion, Contains}
use Rattle.std.specs.Option.{option_map}
use Rattle.sv_session.specs.declared.limits.TheConstants.{GREATEST_SERIAL}
use Rattle.sv_session.specs.Restoring.{CanFollow, session_after, with_last, with_used}
use Rattle.sv_session.specs.Store.{IsOrderly, Session, Store}

-- The next part: at most so many of the sessions above a number.
abbrev pub part_after : ℕ → ℕ → Store → List Session
part_after after count store = take count (filter (λ session. nat_lt after session.number) store.sessions)

-- The number of the last of the sessions, or the number before them if there are none.
abbrev pub last_number : ℕ → List Session → ℕ
last_number before [] = before
last_number before (session ∷ sessions) = last_number session.number sessions

-- The number after which the part after this one begins, if any session is left.
abbrev pub next_part : ℕ → ℕ → Store → Option ℕ
next_part after count store =
    let last = last_number after (part_after after count store) in option_map (λ session. last) (session_after last store)

-- The copies with a part, in which the serials of the store have been used, too.
abbrev pub with_copies : List Session → ℕ → Store → Store
with_copies part serial copies = record (with_used serial copies) { sessions = copies.sessions ++ part }

-- Each of the sessions can follow the copies and those before it.
abbrev pub CanFollowAll : Store → List Session → Type 0
CanFollowAll copies [] = Unit {0}
CanFollowAll copies (session ∷ sessions) = CanFollow copies session × CanFollowAll (with_last session copies) sessions

-- A store at the time of a part, and the greatest number of sessions of the part.
pub record Part : Type 0 where
  pub count : ℕ
  pub store : Store

-- The copies after further parts. Each begins after the last session of those before it.
abbrev pub copies_after : ℕ → List Part → Store → Store
copies_after after [] copies = copies
copies_after after (part ∷ parts) copies =
    let sessions = part_after after part.count part.store in
    copies_after (last_number after sessions) parts (with_copies sessions part.store.serial copies)

-- A session is, as it is, one of the sessions of a store at the time of a part.
abbrev pub StoodInOne : List Part → Session → Type 0
StoodInOne parts session = (part : Part) × Contains parts part × Contains part.store.sessions session

-- Copies that were made from the first session on hold only sessions that stood in the store.
abbrev pub CopiesStoodInTheStore : Type 0
CopiesStoodInTheStore = (parts : List Part) (copies : Store) → copies.sessions ≡ []
    → AllByRecursion (StoodInOne parts) (copies_after 0 parts copies).sessions

-- They are in the order of their numbers, so that none is copied twice.
abbrev pub CopiesAreOrderly : Type 0
CopiesAreOrderly = (parts : List Part) (copies : Store) → copies.sessions ≡ []
    → AllByRecursion (λ part. IsOrderly part.store × (part.store.serial ≤ GREATEST_SERIAL)) parts
    → IsOrderly (copies_after 0 parts copies)
