use Rattle.sv_wire.proofs.LineLemmas.{head_at_feed, no_head, no_head_in_all, no_head_to_feed}
use Rattle.sv_wire.proofs.cut.head_len.Goals as goal

pub returns-in_default : goal.returns-in_default
returns-in_default c =
    no_head c.args.text.now c.split_at.result.1.now c.loop-at.at c.split_at.ensures.back c.loop-at-test.true c.loop-at.invariant c.in_default.ensures

pub returns-then-ends_head : goal.returns-then-ends_head
returns-then-ends_head c =
    head_at_feed c.args.text.now c.split_at.result.1.now c.loop-at.at c.split_at.ensures.back c.loop-at-test.true c.loop-at.invariant c.in-Some.place
    c.in-Some.ensures.0 c.if-ends_head.ensures

pub loop-at-preserved : goal.loop-at-preserved
loop-at-preserved c =
    no_head_to_feed c.args.text.now c.split_at.result.1.now c.loop-at.at c.split_at.ensures.back c.loop-at-test.true c.loop-at.invariant c.in-Some.place
    c.in-Some.ensures.0 c.if-ends_head.ensures

pub returns : goal.returns
returns c = no_head_in_all c.args.text.now c.loop-at.at (c.loop-at-test.false) c.loop-at.invariant
