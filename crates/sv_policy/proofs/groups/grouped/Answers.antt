use Rattle.sv_policy.proofs.Grouping.{grouped_more}
use Rattle.sv_policy.specs.Groups.{members_in}
use Rattle.sv_policy.proofs.groups.grouped.Goals as goal

pub loop-constraint-preserved : goal.loop-constraint-preserved
loop-constraint-preserved c = record {
  members = λ text.
      grouped_more c.args.constraints.now c.loop-constraint.constraint-index c.constraint-item.result (members_in c.loop-constraint.groups.members text) (members_in c.enter.new.self.members text) text
      c.loop-constraint-test.true c.constraint-item.is (c.loop-constraint.invariant.members text) (c.in_ok-enter.ensures.members text);
  patterns = c.in_ok-enter.ensures.patterns c.loop-constraint.invariant.patterns;
}
