use Rattle.std.proofs.Common.{codes, refl, ◌∙◌}
use Rattle.sv_arguments.proofs.Joining.{joined}
use Rattle.sv_arguments.proofs.control_usage.few_line.Goals as goal
use Rattle.sv_arguments.specs.ControlUsage.{usage_after}

pub returns : goal.returns
returns c =
    c.from_string.ensures ∙ c.in_ok-format.ensures.ok
    ∙ joined (codes "  ") c.args.word.now (codes " lacks an argument") (usage_after c.args.known) c.args.word.now c.in_ok-hint.hint refl c.in_ok-hint.ensures
