-- A bound on the items that a part of a stream completes. In a part, only line ends follow an empty line (RFC 9112,
-- sections 2.1, 2.2 and 9.3).
use Rattle.std.specs.Prelude.{◌≡◌, ℕ, ◌≤◌, Bool, true, false, List, [], ◌∷◌, ◌++◌, count_by, Option}
use Rattle.sv_connection.specs.Pieces.{IsPiece}
use Rattle.sv_listening.specs.Parts.{IsPart}
use Rattle.sv_wire.specs.declared.item.Item.{Item}
use Rattle.sv_wire.specs.declared.item.Item.TheVariants.{Continue, Message, Refuse}
use Rattle.sv_wire.specs.declared.owed_head.OwedHead.{OwedHead}
use Rattle.sv_wire.specs.declared.wire_fault.WireFault.{WireFault}
use Rattle.sv_wire.specs.Reads.{Reads}

abbrev pub is_message : Item → Bool
is_message Continue = false
is_message (Message message) = true
is_message (Refuse fault) = false

abbrev pub is_call_to_continue : Item → Bool
is_call_to_continue Continue = true
is_call_to_continue (Message message) = false
is_call_to_continue (Refuse fault) = false

-- At most two messages, one call to continue, and one refusal, since nothing follows a refusal.
pub record AreFew (items : List Item) : Type 0 where
  pub messages : count_by is_message items ≤ 2
  pub calls : count_by is_call_to_continue items ≤ 1
  pub refuses_last : (front behind : List Item) (fault : WireFault) → items ≡ front ++ Refuse fault ∷ behind → behind ≡ []

-- A part completes this few items, whatever was read before it: `owed` is owed then, and `rest` is held.
abbrev pub PartsCompleteLittle : Type 0
PartsCompleteLittle =
    (before : Option OwedHead) (stream : List ℕ) (first : List Item) (owed : Option OwedHead) (rest part : List ℕ) (items : List Item)
    (left : Option OwedHead) (after : List ℕ)
    → Reads before stream first owed rest → IsPart part → Reads owed (rest ++ part) items left after → AreFew items

-- Bytes without the end of an empty line before the last byte are a part.
abbrev pub PiecesAreParts : Type 0
PiecesAreParts = (bytes : List ℕ) → IsPiece bytes → IsPart bytes
