use Rattle.std.proofs.Common.{◌∙◌}
use Rattle.sv_page.specs.HtmlCells.{group_html}
use Rattle.sv_page.proofs.HtmlLemmas.{same_cell}
use Rattle.sv_report.proofs.Given.{given}
use Rattle.sv_page.proofs.html_cells.group_html.Goals as goal

pub returns : goal.returns
unfolding group_html
returns c =
    given c.cell_html.result _ _
    (same_cell _ _ _ _ _ _ _ _ c.class_for.ensures (c.as_str.ensures ∙ c.in_ok-methods.ensures) (c.as_str-2.ensures ∙ c.in_ok-who.ensures) (c.as_str-3.ensures ∙ c.in_ok-why.ensures))
    c.cell_html.ensures
