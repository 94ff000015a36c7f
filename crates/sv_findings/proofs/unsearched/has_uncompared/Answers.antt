use Rattle.std.proofs.Common.{ap, map, ◌∙◌}
use Rattle.std.specs.List.{list_any}
use Rattle.sv_findings.proofs.UncomparedSteps.{all_grouped}
use Rattle.sv_findings.specs.Unsearched.{is_uncompared}
use Rattle.sv_findings.proofs.unsearched.has_uncompared.Goals as goal

pub returns : goal.returns
returns c =
    c.in_ok-is_found.ensures c.args.constraints.now c.in_ok-groups.ensures
    ∙ ap (λ patterns. list_any (is_uncompared c.args.constraints.now patterns) (map (λ pattern. pattern.now) c.in_ok-groups.groups.patterns.items)) c.in_ok-listed.ensures
    ∙ all_grouped c.args.constraints.now c.in_ok-groups.groups c.in_ok-groups.ensures
