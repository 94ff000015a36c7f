use Rattle.std.proofs.Common.{ap, ◌∙◌}
use Rattle.sv_policy.proofs.Grouping.{entered_all, entered_more, new_text}
use Rattle.sv_policy.specs.Groups.{members_in}
use Rattle.sv_policy.specs.Patterns.{different, listed_in}
use Rattle.sv_policy.proofs.groups.Groups.enter.Goals as goal

pub loop-pattern-preserved : goal.loop-pattern-preserved
loop-pattern-preserved c = record {
  members = λ q.
      entered_more c.as_slice-pattern-items.result.now c.loop-pattern.pattern-index c.pattern-item.result (members_in c.args.self.now.members q) (members_in c.loop-pattern.self.members q) (members_in c.enter_at.new.self.members q) c.args.constraint.now q
      c.loop-pattern-test.true c.pattern-item.is
      (new_text c.in_ok-patterns_of.field-0.items c.as_slice-pattern-items.result.now c.loop-pattern.pattern-index c.pattern-item.result (listed_in c.as_slice.result.now) c.as_slice-pattern-items.ensures.value c.in_ok-patterns_of.ensures c.loop-pattern-test.true c.pattern-item.is)
      (c.loop-pattern.invariant.members q) (c.in_ok-enter_at.ensures.members q);
  patterns = λ had. c.in_ok-enter_at.ensures.patterns (c.loop-pattern.invariant.patterns had);
}

pub returns-clause-members : goal.returns-clause-members
returns-clause-members c = λ q.
    entered_all c.in_ok-patterns_of.field-0.items c.as_slice-pattern-items.result.now c.loop-pattern.pattern-index c.args.constraint.now (members_in c.args.self.now.members q) (members_in c.loop-pattern.self.members q) q
    c.loop-pattern-test.false c.as_slice-pattern-items.ensures.value (c.in_ok-patterns_of.ensures ∙ ap (λ collections. different (listed_in collections)) c.as_slice.ensures) (c.loop-pattern.invariant.members q)
