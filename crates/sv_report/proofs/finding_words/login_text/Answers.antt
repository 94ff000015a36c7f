use Rattle.std.proofs.Common.{[], ◌∷◌, ◌∙◌, ap, codes}
use Rattle.sv_report.proofs.Given.{given}
use Rattle.sv_report.proofs.finding_words.login_text.Goals as goal
use Rattle.sv_report.specs.Parts.{joined}

pub returns : goal.returns
returns c =
    given c.joined.result _ _
    (ap (λ path. joined (codes "the login page needs " ∷ path ∷ codes ", which not everyone may GET" ∷ [])) (c.as_str.ensures ∙ c.in_ok-path.ensures))
    c.joined.ensures
