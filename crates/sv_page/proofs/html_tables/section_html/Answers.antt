use Rattle.std.proofs.Common.{ap, length, ◌∙◌}
use Rattle.sv_page.specs.HtmlTables.{note_html, section_html}
use Rattle.sv_page.proofs.HtmlLemmas.{same_section}
use Rattle.sv_report.proofs.Given.{given}
use Rattle.sv_page.proofs.html_tables.section_html.Goals as goal

pub returns : goal.returns
unfolding section_html
returns c =
    given c.joined.result _ _
    (same_section _ _ _ _ _ _ _ _ _ _ _ _ (c.as_str.ensures ∙ c.in_ok-heading.ensures) (c.as_str-2.ensures ∙ c.in_ok-title.ensures) (c.as_str-3.ensures ∙ c.in_ok-shown.ensures)
    (c.as_str-4.ensures ∙ c.in_ok-others.ensures) (c.as_str-5.ensures ∙ c.in_ok-transport.ensures) (c.as_str-6.ensures ∙ c.in_ok-note.ensures ∙ ap (λ rows. note_html (length c.args.rows.now) (length rows)) c.as_slice.ensures))
    c.joined.ensures
