use Rattle.sv_policy.proofs.Alike.{alike_is}
use Rattle.sv_policy.proofs.likeness.are_alike.Goals as goal

pub returns-then-members-others : goal.returns-then-members-others
returns-then-members-others c = alike_is c.args.members.now c.args.others.now c.args.pattern.now c.args.other.now c.are_told_apart.result c.are_told_apart.ensures c.if-members-others.true
