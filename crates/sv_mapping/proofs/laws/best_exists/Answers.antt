use Rattle.sv_mapping.specs.BestMatch.{outranks}
use Rattle.sv_mapping.specs.Pattern.{matches}
use Rattle.sv_mapping.proofs.BestMatches.{outranks-order}
use Rattle.sv_mapping.proofs.FirstBest.{top_exists}
use Rattle.sv_mapping.proofs.laws.best_exists.Goals as goal

pub returns : goal.returns
returns c patterns path = top_exists (λ p. matches p path) outranks outranks-order patterns
