use Rattle.std.proofs.Common.{ap, codes, ◌++◌, ◌∙◌}
use Rattle.sv_audit.proofs.Represented.{repeat_more}
use Rattle.sv_audit.proofs.representatives.long_name.Goals as goal

pub loop-preserved : goal.loop-preserved
loop-preserved c = c.in_ok-push_str.ensures.pushed ∙ (ap (λ name. name ++ codes "x") c.loop.invariant ∙ repeat_more c.loop.counter)
