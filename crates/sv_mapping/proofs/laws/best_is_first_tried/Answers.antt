use Rattle.std.proofs.Common.{[], ◌∷◌, refl}
use Rattle.std.proofs.lemmas.Bool.Decides.{Decides-eqb}
use Rattle.std.proofs.lemmas.Slice.Eq.{starts_is}
use Rattle.sv_mapping.specs.MatchOrder.{tried_texts}
use Rattle.sv_mapping.proofs.Tried.{first_tried}
use Rattle.sv_mapping.proofs.TriedTexts.{tries_in_order}
use Rattle.sv_mapping.proofs.laws.best_is_first_tried.Goals as goal

pub returns : goal.returns
returns c patterns path begins =
    first_tried path (tried_texts path) (tries_in_order path _ ((starts_is Decides-eqb path (47 ∷ []) _ refl).0 begins)) patterns
