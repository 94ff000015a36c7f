-- What contracts see of the state of an inbox (RFC 9112, section 8).
use Rattle.std.specs.Prelude.{◌≡◌, ℕ, false, List, [], ◌∷◌, Option, None, Some}
use Rattle.std.specs.Bool.{MatchBool}
use Rattle.sv_text.specs.declared.front.Cut.TheVariants.{Unended}
use Rattle.sv_wire.specs.declared.inbox.State.{State}
use Rattle.sv_wire.specs.declared.inbox.State.TheVariants.{Spent, Head, Body}
use Rattle.sv_wire.specs.declared.item.Item.{Item}
use Rattle.sv_wire.specs.declared.owed_head.OwedHead.{OwedHead}
use Rattle.sv_wire.specs.Inbox.{Held, spent_for_good}
use Rattle.sv_wire.specs.Items.{is_last, are_ended}
use Rattle.sv_wire.specs.Pending.{owed_by, rest_of, IsSound}
use Rattle.sv_wire.specs.Reads.{Reads, cut_head}

abbrev pub held_of : State → Held
held_of Spent = spent_for_good
held_of (Head held) = record { spent = false; owed = None; rest = held.items }
held_of (Body pending) = record { spent = false; owed = owed_by (Some pending); rest = rest_of (Some pending) }

-- An awaited head has no end yet, and an awaited body is that of its head.
abbrev pub IsSoundState : State → Type 0
IsSoundState Spent = Unit {0}
IsSoundState (Head held) = cut_head held.items ≡ Unended
IsSoundState (Body pending) = IsSound pending

-- The items are read from the stream, and the state holds the rest.
abbrev pub ReadsTo : Option OwedHead → List ℕ → List Item → State → Type 0
ReadsTo owed stream items state =
    Reads owed stream items (held_of state).owed (held_of state).rest
    × ((held_of state).spent ≡ are_ended items) × IsSoundState state

-- After an item the stream continues with this text, unless the item is the last. The items are this one and those read
-- from the text, and the state holds the rest.
abbrev pub ReadsAfter : Item → List ℕ → List Item → State → Type 0
ReadsAfter item behind items state =
    (more : List Item) × (items ≡ item ∷ more)
    × MatchBool (is_last item) ((more ≡ []) × (state ≡ Spent)) (ReadsTo None behind more state)
