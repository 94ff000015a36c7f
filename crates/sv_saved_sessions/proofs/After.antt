-- Sessions that are visited in the order of their numbers.
use Rattle.std.proofs.Common.{◌≡◌, ℕ, zero, suc, ◌<◌, Bool, false, ltb, List, [], ◌∷◌, length, Option, Some, refl, subst, arith}
use Rattle.std.specs.Prelude.{find, nat_lt, slice_get}
use Rattle.std.proofs.lemmas.Bool.{lt-ltb, le-ltb}
use Rattle.sv_session.specs.Store.{NumbersRise, Session}

pub same_item : {A : Type 0} (one other : A) → ◌≡◌ {A = Option A} (Some one) (Some other) → one ≡ other
same_item one other is = cc

after : ℕ → Session → Bool
after number session = nat_lt number session.number

pub first_above : (number high : ℕ) (sessions : List Session) → NumbersRise number high sessions → find (λ session. nat_lt number session.number) sessions ≡ slice_get sessions 0
first_above number high [] rise = refl
first_above number high (session ∷ sessions) rise = rw (lt-ltb number session.number rise.0) refl

pub above : (number high : ℕ) (sessions : List Session) (place : ℕ) (session : Session) → NumbersRise number high sessions → slice_get sessions place ≡ Some session → number < session.number
above number high [] place session rise is = absurd cc
above number high (first ∷ others) zero session rise is = subst (λ (s : Session). number < s.number) (same_item first session is) rise.0
above number high (first ∷ others) (suc place) session rise is = omega (arith, rise.0, above first.number high others place session rise.1 is)

pub next_after : (low high : ℕ) (sessions : List Session) (place : ℕ) (session : Session) → NumbersRise low high sessions → slice_get sessions place ≡ Some session
    → find (λ other. nat_lt session.number other.number) sessions ≡ slice_get sessions (suc place)
next_after low high [] place session rise is = absurd cc
next_after low high (first ∷ others) zero session rise is =
    let same = same_item first session is in
    let own : ltb first.number first.number ≡ false = le-ltb first.number first.number (omega arith) in
    let of_first : find (λ other. nat_lt first.number other.number) (first ∷ others) ≡ slice_get others 0 = rw own (first_above first.number high others rise.1) in
    subst (λ (s : Session). find (λ other. nat_lt s.number other.number) (first ∷ others) ≡ slice_get others 0) same of_first
next_after low high (first ∷ others) (suc place) session rise is =
    let before : ltb session.number first.number ≡ false = le-ltb session.number first.number (omega (arith, above first.number high others place session rise.1 is)) in
    rw before (next_after first.number high others place session rise.1 is)

-- There is an item at each place below the length.
pub some_item : {A : Type 0} (items : List A) (place : ℕ) → place < length items → (item : A) × (slice_get items place ≡ Some item)
some_item [] place lt = absurd (omega arith)
some_item (first ∷ others) zero lt = (first, refl)
some_item (first ∷ others) (suc place) lt = some_item others place (omega arith)
