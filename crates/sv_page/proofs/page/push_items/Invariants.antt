use Rattle.std.proofs.Common.{◌≡◌, ◌++◌, filter, take}
use Rattle.std.specs.String.{string_bytes}
use Rattle.std.specs.List.{flat_map}
use Rattle.sv_page.specs.Page.{is_of_kind, item_html}
use Rattle.sv_page.proofs.page.push_items.Given as goal

abbrev pub invariant-loop-finding : goal.invariant-loop-finding
invariant-loop-finding l = string_bytes l.text ≡ string_bytes l.fn.text ++ flat_map (item_html l.context) (filter (is_of_kind l.kind) (take l.finding-index l.findings))
