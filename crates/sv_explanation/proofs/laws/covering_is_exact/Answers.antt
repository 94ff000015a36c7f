use Rattle.std.proofs.Common.{ap, ◌∙◌}
use Rattle.sv_constraints.specs.Covering.{all_patterns, covering}
use Rattle.sv_mapping.specs.BestMatch.{best_pattern}
use Rattle.sv_explanation.specs.Callers.{caller_of}
use Rattle.sv_explanation.specs.Laws.{covering_listed}
use Rattle.sv_explanation.specs.Listed.{listed_on}
use Rattle.sv_explanation.proofs.ListingLemmas.{at_pattern, listed_exactly}
use Rattle.sv_explanation.proofs.laws.covering_is_exact.Goals as goal

pub returns : goal.returns
returns c context method canon =
    let pattern = best_pattern (all_patterns context.constraints) canon.path in
    ap (λ found. covering_listed (listed_on context found method)) (at_pattern context.descriptor.rules (caller_of context) pattern (covering context.constraints pattern method))
    ∙ listed_exactly context method pattern
