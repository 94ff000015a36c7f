-- Reading a piece after the bytes that a connection holds (RFC 9112, sections 2.2 and 9.6).
use Rattle.std.specs.Prelude.{◌≡◌, ℕ, Bool, false, List, [], ◌++◌, if◌then◌else◌}
use Rattle.std.specs.Bool.{MatchBool}
use Rattle.sv_wire.specs.declared.item.Item.{Item}
use Rattle.sv_wire.specs.Inbox.{Held, spent_for_good}
use Rattle.sv_wire.specs.Items.{are_ended}
use Rattle.sv_wire.specs.Reads.{Reads}

-- the piece completes the items, and leaves `after` held; if nothing more is read, it completes none
abbrev pub Feeds : Held → List ℕ → List Item → Held → Type 0
Feeds before piece items after =
    MatchBool before.spent ((items ≡ []) × (after ≡ before))
    (Reads before.owed (before.rest ++ piece) items after.owed after.rest × (after.spent ≡ are_ended items))

-- what the connection holds afterwards, depending on whether it closes
abbrev pub held_where : Bool → Held → Held
held_where closes left = if closes then spent_for_good else left

-- a part of the piece completes the items, and leaves `after` held. If the connection stays open, that part is the
-- whole piece. If the connection closes after the items, the rest may stay unread, and nothing more is read
pub record FeedsWhere (closes : Bool) (before : Held) (piece : List ℕ) (items : List Item) (after : Held) : Type 0 where
  pub part : List ℕ
  pub unread : List ℕ
  pub is_piece : piece ≡ part ++ unread
  pub is_all : closes ≡ false → unread ≡ []
  pub left : Held
  pub feeds : Feeds before part items left
  pub is_after : after ≡ held_where closes left
