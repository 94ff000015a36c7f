use Rattle.std.proofs.Common.{ap₂, codes, [], ◌∷◌, ◌∙◌}
use Rattle.sv_page.specs.HtmlTables.{heading_of}
use Rattle.sv_report.specs.Parts.{joined}
use Rattle.sv_report.proofs.Given.{given}
use Rattle.sv_page.proofs.html_tables.heading_of.Goals as goal

pub returns : goal.returns
unfolding heading_of
returns c =
    given c.joined.result _ _
    (ap₂ (λ path file. joined (codes "<section>\n<h2><code>" ∷ path ∷ codes "</code> <small>" ∷ file ∷ codes "</small></h2>\n" ∷ []))
    (c.as_str.ensures ∙ c.in_ok-path.ensures) (c.as_str-2.ensures ∙ c.in_ok-file.ensures))
    c.joined.ensures
