use Rattle.std.proofs.Common.{ap, ◌∙◌}
use Rattle.sv_page.specs.Page.{list_html}
use Rattle.sv_page.specs.declared.page.TheConstants.{PAGE_START}
use Rattle.sv_page.proofs.HtmlLemmas.{same_page}
use Rattle.sv_report.proofs.Given.{given}
use Rattle.sv_page.proofs.page.audit_html.Goals as goal

pub returns : goal.returns
returns c =
    given c.joined.result _ _
    (same_page PAGE_START.now _ _ _ _ _ _ (c.as_str-2.ensures ∙ c.in_ok-notes.ensures) (c.as_str-3.ensures ∙ c.in_ok-list.ensures ∙ ap list_html (c.as_str.ensures ∙ c.in_ok-items.ensures))
    (c.as_str-4.ensures ∙ c.in_ok-tables.ensures))
    c.joined.ensures
