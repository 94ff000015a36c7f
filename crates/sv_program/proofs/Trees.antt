-- The items of a value.
use Rattle.std.proofs.Common.{◌≡◌, List, [], map, Some, sym, ap, ◌∙◌}
use Rattle.std.specs.Option.{option_map_or}
use Rattle.toml.specs.Data.{Data, as_array}
use Rattle.toml.specs.View.{items_view, view}
use Rattle.toml.specs.declared.value.Value.{Value}
use Rattle.sv_descriptor.specs.ListOf.{items_list}
use Rattle.sv_descriptor.proofs.Lists.{items_list-items_view}
use Rattle.sv_program.specs.Offending.{items}

pub items-as_array : (value : Data) (found : List Value) → Some (items_view found) ≡ as_array value → items value ≡ map view found
items-as_array value found h = ap (λ array. option_map_or items_list array []) (sym h) ∙ items_list-items_view found
