use Rattle.std.proofs.Common.{ℕ, List, [], ◌∷◌, ap, codes, ◌∙◌}
use Rattle.sv_report.specs.Parts.{joined}
use Rattle.sv_explanation.proofs.sentences.bad_path_lines.Goals as goal

pub returns : goal.returns
returns c =
    c.from_string.ensures ∙ c.in_ok-text.ensures.ok
    ∙ ap (λ (shown : List ℕ). joined (
    codes "The target " ∷ shown ∷ codes " has no canonical path: " ∷ c.args.name.now ∷ codes ".\nThe server answers 400.\n" ∷ []
    )) (c.as_str.ensures ∙ c.in_ok-target.ensures)
