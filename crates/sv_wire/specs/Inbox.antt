-- What contracts see of an inbox, the input that it awaits, and how its stream ends (RFC 9112, sections 2.2 and 8).
use Rattle.std.specs.Prelude.{ℕ, Bool, true, false, List, [], ◌∷◌, if◌then◌else◌, Option, None, Some}
use Rattle.sv_text.specs.declared.front.Cut.{Cut}
use Rattle.sv_text.specs.declared.front.Cut.TheVariants.{Whole, Endless, Unended}
use Rattle.sv_wire.specs.declared.inbox.Awaited.{Awaited}
use Rattle.sv_wire.specs.declared.inbox.Awaited.TheVariants as awaited
use Rattle.sv_wire.specs.declared.inbox.Ended.{Ended}
use Rattle.sv_wire.specs.declared.inbox.Ended.TheVariants.{Clean, Truncated, Spent}
use Rattle.sv_wire.specs.declared.owed_head.OwedHead.{OwedHead}
use Rattle.sv_wire.specs.Reads.{cut_head}

-- Whether the inbox reads no more, the head whose body was asked for by `100 Continue` and is awaited, and the bytes
-- received that are in no item yet.
pub record Held : Type 0 where
  pub spent : Bool
  pub owed : Option OwedHead
  pub rest : List ℕ

-- The state before the first byte.
abbrev pub nothing_held : Held
nothing_held = record { spent = false; owed = None; rest = [] }

-- The state after the last item, after memory ran out, and after the end.
abbrev pub spent_for_good : Held
spent_for_good = record { spent = true; owed = None; rest = [] }

-- The input awaited after bytes that are in no item, by where their head ends.
abbrev pub awaited_after : List ℕ → Cut → Awaited
awaited_after [] cut = awaited.Message
awaited_after (b ∷ rest) Unended = awaited.Head
awaited_after (b ∷ rest) Endless = awaited.Head
awaited_after (b ∷ rest) (Whole len) = awaited.Body

-- The input awaited with this head owed and these bytes held. A body that was asked for is awaited from its first byte
-- on.
abbrev pub awaited_within : Option OwedHead → List ℕ → Awaited
awaited_within None rest = awaited_after rest (cut_head rest)
awaited_within (Some owed) rest = awaited.Body

-- The input that an inbox awaits.
abbrev pub awaited_of : Held → Awaited
awaited_of held = if held.spent then awaited.Nothing else awaited_within held.owed held.rest

-- How the stream ends, by the awaited input.
abbrev pub end_awaiting : Awaited → Ended
end_awaiting awaited.Message = Clean
end_awaiting awaited.Head = Truncated
end_awaiting awaited.Body = Truncated
end_awaiting awaited.Nothing = Spent

-- How the stream ends.
abbrev pub end_of : Held → Ended
end_of held = end_awaiting (awaited_of held)
