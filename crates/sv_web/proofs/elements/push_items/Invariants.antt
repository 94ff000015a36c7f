use Rattle.std.proofs.Common.{◌≡◌, ◌++◌, string_bytes, take}
use Rattle.std.specs.List.{flat_map}
use Rattle.sv_web.specs.Elements.{list_item}
use Rattle.sv_web.proofs.elements.push_items.Given as goal

abbrev pub invariant-loop-text : goal.invariant-loop-text
invariant-loop-text l = string_bytes l.descriptor ≡ string_bytes l.initial.descriptor ++ flat_map (λ text. list_item text.now) (take l.text-index l.texts)
