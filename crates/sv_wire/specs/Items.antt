-- The items of a stream, and its end (RFC 9112, section 9.3).
use Rattle.std.specs.Prelude.{Bool, true, false, not, List, [], ◌∷◌, Option, None, Some}
use Rattle.std.specs.List.{list_any}
use Rattle.sv_wire.specs.declared.item.Item.{Item}
use Rattle.sv_wire.specs.declared.item.Item.TheVariants.{Continue, Message, Refuse}

-- Whether nothing is read after an item: it is a refusal, or a message that does not keep the connection.
abbrev pub is_last : Item → Bool
is_last Continue = false
is_last (Message message) = not message.keep
is_last (Refuse fault) = true

-- Whether the items contain a last one.
abbrev pub are_ended : List Item → Bool
are_ended items = list_any is_last items

-- The first item that is not `Continue`.
abbrev pub first_item : List Item → Option Item
first_item [] = None
first_item (Continue ∷ items) = first_item items
first_item (Message message ∷ items) = Some (Message message)
first_item (Refuse fault ∷ items) = Some (Refuse fault)
