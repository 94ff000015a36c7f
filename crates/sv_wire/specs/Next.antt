-- The next item of a stream, and the state after all its items, in terms of the code (RFC 9112, section 2.2).
use Rattle.std.specs.Prelude.{◌≡◌, ℕ, ◌+◌, ◌-◌, ◌*◌, ◌<◌, ◌≤◌, Bool, true, false, List, [], ◌++◌, length, take, drop, Option, None, Some}
use Rattle.sv_text.specs.declared.front.Cut.{Cut}
use Rattle.sv_text.specs.declared.front.Cut.TheVariants.{Whole, Endless, Unended}
use Rattle.sv_wire.specs.declared.limits.TheConstants.{MAX_HEAD_LEN}
use Rattle.sv_wire.specs.declared.owed_head.OwedHead.{OwedHead}
use Rattle.sv_wire.specs.declared.owed_head.Judgement.{Judgement}
use Rattle.sv_wire.specs.declared.pending_message.Pending.{Pending}
use Rattle.sv_wire.specs.declared.read_items.Next.{Next}
use Rattle.sv_wire.specs.declared.read_items.Next.TheVariants.{Found, AwaitsHead, AwaitsBody}
use Rattle.sv_wire.specs.declared.read_items.Rest.{Rest}
use Rattle.sv_wire.specs.declared.read_items.Rest.TheVariants.{Ended, Head, Body}
use Rattle.sv_wire.specs.EmptyLines.{drop_empty_lines}
use Rattle.sv_wire.specs.Pending.{owed_by, rest_of, AreSound, IsSound}
use Rattle.sv_wire.specs.Reads.{Start, gives, awaits, cut_head, ReadsHead, text_of, Starts}

-- A cut takes only bytes that are present, and a whole head has at least two bytes and is within the limit.
abbrev pub HoldsText : List ℕ → Cut → Type 0
HoldsText stream (Whole len) = (1 < len) × (len ≤ length stream) × (len ≤ MAX_HEAD_LEN)
HoldsText stream Endless = MAX_HEAD_LEN ≤ length stream
HoldsText stream Unended = Unit {0}

-- The measure of the work left, by whether a body is pending and the number of bytes left. An item takes bytes or a
-- body.
abbrev pub weight : Option Pending → ℕ → ℕ
weight None count = 2 * count
weight (Some pending) count = 2 * count + 1

-- The start of the stream after the bytes received of a pending body.
abbrev pub StartsNext : Option Pending → List ℕ → Start → Type 0
StartsNext body stream start = Starts (owed_by body) (text_of (owed_by body) (rest_of body ++ stream)) start

-- The result of reading from a place in the stream.
abbrev pub ComesNext : Option Pending → List ℕ → ℕ → Next → Type 0
ComesNext body stream at (Found item next end) =
    (at ≤ end) × (end ≤ length stream) × AreSound next
    × (weight next (length stream - end) < weight body (length stream - at))
    × StartsNext body (drop at stream) (gives item (owed_by next) (rest_of next ++ drop end stream))
ComesNext body stream at (AwaitsHead start) =
    (start ≤ length stream) × (cut_head (drop start stream) ≡ Unended) × (owed_by body ≡ None)
    × (drop start stream ≡ text_of (owed_by body) (rest_of body ++ drop at stream)) × StartsNext body (drop at stream) awaits
ComesNext body stream at (AwaitsBody pending) =
    IsSound pending × (owed_by (Some pending) ≡ owed_by body)
    × (rest_of (Some pending) ≡ text_of (owed_by body) (rest_of body ++ drop at stream)) × StartsNext body (drop at stream) awaits

-- There is a head with this judgement between the places, and no empty line before it.
pub record IsHeadAt (stream : List ℕ) (start end : ℕ) (judgement : Judgement) : Type 0 where
  pub behind : drop_empty_lines (drop start stream) ≡ drop start stream
  pub whole : cut_head (drop start stream) ≡ Whole (end - start)
  pub some : start < end
  pub reads : ReadsHead (take (end - start) (drop start stream)) judgement

-- The head that is owed, and the bytes that are in no item, after the items of a stream.
abbrev pub owed_behind : Rest → Option OwedHead
owed_behind Ended = None
owed_behind (Head at) = None
owed_behind (Body pending) = owed_by (Some pending)

abbrev pub bytes_behind : List ℕ → Rest → List ℕ
bytes_behind stream Ended = []
bytes_behind stream (Head at) = drop at stream
bytes_behind stream (Body pending) = rest_of (Some pending)

abbrev pub is_ended : Rest → Bool
is_ended Ended = true
is_ended (Head at) = false
is_ended (Body pending) = false

-- An awaited head begins within the stream and has no end yet, and an awaited body is that of its head.
abbrev pub IsSoundRest : List ℕ → Rest → Type 0
IsSoundRest stream Ended = Unit {0}
IsSoundRest stream (Head at) = (at ≤ length stream) × (cut_head (drop at stream) ≡ Unended)
IsSoundRest stream (Body pending) = IsSound pending
