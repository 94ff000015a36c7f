use Rattle.std.proofs.Common.{◌≡◌, take}
use Rattle.std.specs.String.{string_bytes}
use Rattle.std.specs.List.{flat_map}
use Rattle.sv_page.specs.HtmlTables.{foreign_html}
use Rattle.sv_page.proofs.html_tables.foreign_rows.Given as goal

abbrev pub invariant-loop-other : goal.invariant-loop-other
invariant-loop-other l = string_bytes l.text ≡ flat_map (foreign_html l.context) (take l.other-index l.others)
