use Rattle.std.proofs.Common.{◌≡◌, take}
use Rattle.std.specs.String.{string_bytes}
use Rattle.std.specs.List.{flat_map}
use Rattle.sv_page.specs.HtmlCells.{row_html}
use Rattle.sv_page.proofs.html_tables.rows_html.Given as goal

abbrev pub invariant-loop-row : goal.invariant-loop-row
invariant-loop-row l = string_bytes l.text ≡ flat_map (row_html l.context) (take l.row-index l.rows)
