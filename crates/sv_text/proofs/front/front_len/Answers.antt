use Rattle.std.proofs.Common.{sym, arith}
use borrow.Author.Count.{below_more}
use Rattle.sv_text.proofs.FrontLemmas.{shortest_front_some, shortest_front_none}
use Rattle.sv_text.proofs.front.front_len.Goals as goal

pub returns-then-is_ended : goal.returns-then-is_ended
returns-then-is_ended g c =
    sym (shortest_front_some (g.D.Delimited.ends c.args.kind.now) c.args.text.now c.loop-len.len
    (record { fits = omega arith; passes = sym c.if-is_ended.ensures; first = c.loop-len.invariant }))

pub loop-len-preserved : goal.loop-len-preserved
loop-len-preserved g c = below_more _ _ c.loop-len.invariant (sym c.if-is_ended.ensures)

pub returns : goal.returns
returns g c = sym (shortest_front_none (g.D.Delimited.ends c.args.kind.now) c.args.text.now (λ k within. c.loop-len.invariant k (omega arith)))

pub returns-else-is_ended : goal.returns-else-is_ended
returns-else-is_ended g c =
    sym (shortest_front_none (g.D.Delimited.ends c.args.kind.now) c.args.text.now
    (λ k within. below_more _ _ c.loop-len.invariant (sym c.if-is_ended.ensures) k (omega arith)))
