use Rattle.std.proofs.Common.{ap}
use Rattle.sv_constraints.specs.Verdict.{verdict}
use Rattle.sv_explanation.specs.Callers.{can_log_in}
use Rattle.sv_explanation.proofs.OutcomeLemmas.{no_caller}
use Rattle.sv_explanation.proofs.laws.callers_can_log_in.Goals as goal

pub returns : goal.returns
returns c context method canon is =
    ap (verdict context.constraints context.descriptor.rules method canon.path) (no_caller (can_log_in context) context.caller is)
