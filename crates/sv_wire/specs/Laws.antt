-- Theorems about reading a stream: a reading exists, is unique, and does not depend on cuts of the stream into pieces.
-- Bodies and held heads are within their limits.
use Rattle.std.specs.Prelude.{◌≡◌, ℕ, ◌<◌, ◌≤◌, true, false, ◌⊎◌, List, ◌++◌, length, All, Option, None, Some, ⊤}
use Rattle.sv_text.specs.declared.front.Cut.TheVariants.{Unended}
use Rattle.sv_wire.specs.declared.limits.TheConstants.{MAX_BODY_LEN}
use Rattle.sv_wire.specs.Body.{FitsLimit}
use Rattle.sv_wire.specs.declared.item.Item.{Item}
use Rattle.sv_wire.specs.declared.item.Item.TheVariants.{Continue, Message, Refuse}
use Rattle.sv_wire.specs.declared.limits.TheConstants.{MAX_HEAD_LEN}
use Rattle.sv_wire.specs.declared.owed_head.OwedHead.{OwedHead}
use Rattle.sv_wire.specs.Items.{are_ended}
use Rattle.sv_wire.specs.Reads.{Reads, cut_head}

-- A reading continues with the reading of its rest and the bytes that follow, unless it has ended.
abbrev pub ReadingsJoin : Type 0
ReadingsJoin =
    (owed : Option OwedHead) (first second : List ℕ) (items more : List Item) (next : Option OwedHead) (between : List ℕ)
    (left : Option OwedHead) (rest : List ℕ)
    → are_ended items ≡ false
    → Reads owed first items next between
    → Reads next (between ++ second) more left rest
    → Reads owed (first ++ second) (items ++ more) left rest

-- Every stream has a reading, up to double negation.
abbrev pub ReadingsExist : Type 0
ReadingsExist =
    (owed : Option OwedHead) (stream : List ℕ)
    → ¬ ((items : List Item) (left : Option OwedHead) (rest : List ℕ) → ¬ (Reads owed stream items left rest))

-- A stream has at most one reading.
abbrev pub ReadingsAreUnique : Type 0
ReadingsAreUnique =
    (owed : Option OwedHead) (stream : List ℕ) (items others : List Item)
    (left : Option OwedHead) (rest : List ℕ) (other_left : Option OwedHead) (other_rest : List ℕ)
    → Reads owed stream items left rest
    → Reads owed stream others other_left other_rest
    → (items ≡ others) × (left ≡ other_left) × (rest ≡ other_rest)

-- The reading of a stream that is cut in two is a reading of its first part, which has ended or continues.
abbrev pub ReadingsSplitAtACut : Type 0
ReadingsSplitAtACut =
    (owed : Option OwedHead) (first second : List ℕ) (items : List Item) (left : Option OwedHead) (rest : List ℕ)
    → Reads owed (first ++ second) items left rest
    → ((are_ended items ≡ true) × Reads owed first items left rest)
    ⊎ ((front : List Item) × (more : List Item) × (next : Option OwedHead) × (between : List ℕ)
    × (items ≡ front ++ more) × (are_ended front ≡ false)
    × Reads owed first front next between × Reads next (between ++ second) more left rest)

-- A head that has no end yet is shorter than the limit.
abbrev pub OpenHeadsAreShort : Type 0
OpenHeadsAreShort = (held : List ℕ) → cut_head held ≡ Unended → length held < MAX_HEAD_LEN

-- The body of a message is within the limit.
abbrev pub IsWithinLimit : Item → Type 0
IsWithinLimit Continue = ⊤
IsWithinLimit (Message message) = length message.body ≤ MAX_BODY_LEN
IsWithinLimit (Refuse fault) = ⊤

-- The body of the head that is owed, if any, will be within the limit.
abbrev pub OwesWithinLimit : Option OwedHead → Type 0
OwesWithinLimit None = ⊤
OwesWithinLimit (Some owed) = FitsLimit owed.framing

-- The body of every message of a stream is within the limit.
abbrev pub BodiesAreWithinTheLimit : Type 0
BodiesAreWithinTheLimit =
    (owed : Option OwedHead) (stream : List ℕ) (items : List Item) (left : Option OwedHead) (rest : List ℕ)
    → OwesWithinLimit owed
    → Reads owed stream items left rest
    → All IsWithinLimit items × OwesWithinLimit left
