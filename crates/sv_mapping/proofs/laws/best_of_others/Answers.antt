use Rattle.std.proofs.Common.{◌≡◌, true}
use Rattle.std.proofs.lemmas.Bool.{not-true}
use Rattle.sv_mapping.specs.MatchOrder.{other_texts}
use Rattle.sv_mapping.specs.Pattern.{is_pattern}
use Rattle.sv_mapping.proofs.OtherTexts.{listed, other_tries}
use Rattle.sv_mapping.proofs.Tried.{first_of_tried}
use Rattle.sv_mapping.proofs.laws.best_of_others.Goals as goal

pub returns : goal.returns
returns c patterns path accepted bare =
    first_of_tried (λ text. is_pattern text ≡ true) path (other_texts path) (other_tries path (not-true _ bare)) patterns (listed patterns accepted)
