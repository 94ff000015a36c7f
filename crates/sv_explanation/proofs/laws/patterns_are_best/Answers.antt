use Rattle.sv_constraints.specs.Covering.{all_patterns, covering}
use Rattle.sv_mapping.specs.BestMatch.{best_pattern}
use Rattle.sv_explanation.specs.Callers.{caller_of}
use Rattle.sv_explanation.proofs.ListingLemmas.{at_pattern}
use Rattle.sv_explanation.proofs.laws.patterns_are_best.Goals as goal

pub returns : goal.returns
returns c context method canon =
    let pattern = best_pattern (all_patterns context.constraints) canon.path in
    at_pattern context.descriptor.rules (caller_of context) pattern (covering context.constraints pattern method)
