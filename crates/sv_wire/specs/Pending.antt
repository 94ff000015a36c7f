-- A body that is being read, and what contracts see of it (RFC 9112, section 6).
use Rattle.std.specs.Prelude.{◌≡◌, ℕ, Bool, List, [], ◌++◌, length, if◌then◌else◌, Option, None, Some}
use Rattle.std.specs.Bool.{MatchBool}
use Rattle.sv_wire.specs.declared.body_reader.Progress.{Progress}
use Rattle.sv_text.specs.declared.front.Cut.TheVariants.{Whole}
use Rattle.sv_wire.specs.Body.{nothing_came}
use Rattle.sv_wire.specs.Progress.{ReadsOn}
use Rattle.sv_wire.specs.declared.owed_head.OwedHead.{OwedHead}
use Rattle.sv_wire.specs.declared.owed_head.Judgement.TheVariants.{Accepted}
use Rattle.sv_wire.specs.declared.pending_message.Pending.{Pending}
use Rattle.sv_wire.specs.EmptyLines.{drop_empty_lines}
use Rattle.sv_wire.specs.Reads.{ReadsHead, cut_head}

-- The text is a whole head, whose body follows without being asked for.
pub record IsHeadOf (text : List ℕ) (owed : OwedHead) : Type 0 where
  pub behind : drop_empty_lines text ≡ text
  pub whole : cut_head text ≡ Whole (length text)
  pub reads : ReadsHead text (Accepted owed)

-- The bytes received of a body, and of its head unless the body was asked for.
abbrev pub came_of : Pending → List ℕ
came_of pending = pending.head.bytes ++ pending.reader.came

-- The head that is owed: that of a pending body, if the body was asked for.
abbrev pub owed_by : Option Pending → Option OwedHead
owed_by None = None
owed_by (Some pending) = if pending.is_asked then Some pending.owed else None

-- The bytes received that are in no item.
abbrev pub rest_of : Option Pending → List ℕ
rest_of None = []
rest_of (Some pending) = came_of pending

-- The body is that of its head.
abbrev pub IsSound : Pending → Type 0
IsSound pending =
    (pending.reader.framing ≡ pending.owed.framing)
    × MatchBool pending.is_asked (pending.head.bytes ≡ []) (IsHeadOf pending.head.bytes pending.owed)

abbrev pub AreSound : Option Pending → Type 0
AreSound None = Unit {0}
AreSound (Some pending) = IsSound pending

-- No byte of the body has been received.
pub record Begins (is_asked : Bool) (head : List ℕ) (owed : OwedHead) (pending : Pending) : Type 0 where
  pub asked : pending.is_asked ≡ is_asked
  pub bytes : pending.head.bytes ≡ head
  pub owes : pending.owed ≡ owed
  pub reader : pending.reader ≡ nothing_came owed.framing

-- A piece of the body is read. The head does not change.
abbrev pub ReadsPiece : Pending → List ℕ → Progress → Pending → Type 0
ReadsPiece before piece progress after =
    ReadsOn before.reader piece progress after.reader
    × (after ≡ record { owed = before.owed; is_asked = before.is_asked; head = before.head; reader = after.reader })
