use Rattle.std.proofs.Common.{ℕ, List, [], ◌∷◌, ap, codes, ◌∙◌}
use Rattle.sv_report.specs.Escaped.{escaped}
use Rattle.sv_report.specs.Parts.{joined}
use Rattle.sv_explanation.proofs.sentences.unread_lines.Goals as goal

pub returns : goal.returns
returns c =
    c.from_string.ensures ∙ c.in_ok-text.ensures.ok
    ∙ ap (λ (shown : List ℕ). joined (
    codes "The server refuses " ∷ shown ∷ codes " for the target " ∷ c.as_str-2.result.now ∷ codes ": " ∷ c.args.name.now
    ∷ codes ".\nIt answers " ∷ c.args.status.now ∷ codes ".\n" ∷ []
    )) (c.as_str.ensures ∙ c.in_ok-method.ensures)
    ∙ ap (λ (shown : List ℕ). joined (
    codes "The server refuses " ∷ escaped c.args.asked.now.method.now ∷ codes " for the target " ∷ shown ∷ codes ": " ∷ c.args.name.now
    ∷ codes ".\nIt answers " ∷ c.args.status.now ∷ codes ".\n" ∷ []
    )) (c.as_str-2.ensures ∙ c.in_ok-target.ensures)
