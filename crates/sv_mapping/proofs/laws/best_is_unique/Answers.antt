use Rattle.std.proofs.lemmas.Bool.{and_parts}
use Rattle.sv_mapping.proofs.Uniqueness.{same_text}
use Rattle.sv_mapping.proofs.BestMatches.{unbeaten_by_member}
use Rattle.sv_mapping.proofs.laws.best_is_unique.Goals as goal

pub returns : goal.returns
returns c patterns path a b a_in b_in a_best b_best =
    same_text a b path (and_parts _ _ a_best).0 (and_parts _ _ b_best).0 (unbeaten_by_member patterns path b a b_best a_in (and_parts _ _ a_best).0) (unbeaten_by_member patterns path a b a_best b_in (and_parts _ _ b_best).0)
