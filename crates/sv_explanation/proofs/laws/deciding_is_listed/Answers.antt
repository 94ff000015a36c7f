use Rattle.std.proofs.Common.{◌==◌, [], ap, ◌∙◌, unwrap_or}
use Rattle.std.specs.List.{list_any}
use Rattle.sv_constraints.specs.Covering.{all_patterns, covering}
use Rattle.sv_descriptor.proofs.Lists.{list_any-map}
use Rattle.sv_mapping.specs.BestMatch.{best_pattern}
use Rattle.sv_explanation.specs.Callers.{caller_of}
use Rattle.sv_explanation.specs.Laws.{covering_listed}
use Rattle.sv_explanation.specs.Listed.{listed_constraint, listed_on}
use Rattle.sv_explanation.specs.declared.listed_constraint.ListedConstraint.{ListedConstraint}
use Rattle.sv_explanation.proofs.DecidingLemmas.{names_member}
use Rattle.sv_explanation.proofs.ListingLemmas.{at_pattern, listed_exactly}
use Rattle.sv_explanation.proofs.laws.deciding_is_listed.Goals as goal

pub returns : goal.returns
returns c context method canon number is =
    let pattern = best_pattern (all_patterns context.constraints) canon.path in
    let members = covering context.constraints pattern method in
    let with_number : ListedConstraint → _ = λ (listed : ListedConstraint). listed.number == number in
    ap (λ found. list_any with_number (covering_listed (listed_on context found method))) (at_pattern context.descriptor.rules (caller_of context) pattern members)
    ∙ ap (list_any with_number) (listed_exactly context method pattern)
    ∙ list_any-map with_number (listed_constraint context (unwrap_or pattern []) method) members
    ∙ names_member context.descriptor.rules (caller_of context) pattern members number is
