use Rattle.toml.proofs.Views.{view-Array}
use Rattle.sv_descriptor.proofs.Lists.{items_list-items_view}
use Rattle.sv_descriptor.proofs.list.list_items.Goals as goal

pub returns-in-Array : goal.returns-in-Array
returns-in-Array g c = rw (c.in-Array.is, view-Array, items_list-items_view, ← c.as_slice.ensures.value) c.sized_items.ensures
