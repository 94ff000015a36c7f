use Rattle.std.proofs.Common.{◌≡◌, map, take}
use Rattle.std.specs.String.{string_bytes}
use Rattle.std.specs.List.{flat_map}
use Rattle.sv_page.specs.Page.{items_of_kind}
use Rattle.sv_page.proofs.page.items_of_kinds.Given as goal

abbrev pub invariant-loop-kind : goal.invariant-loop-kind
invariant-loop-kind l = string_bytes l.text ≡ flat_map (items_of_kind l.contexts) (map (λ kind. kind.now) (take l.kind-index l.kinds))
