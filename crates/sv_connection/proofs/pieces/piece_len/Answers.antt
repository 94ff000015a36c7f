use Rattle.std.proofs.Common.{arith, length}
use Rattle.sv_connection.proofs.PieceLemmas.{no_end_to_feed, no_end_until}
use Rattle.sv_connection.proofs.pieces.piece_len.Goals as goal

pub returns-in_default-clause-cut : goal.returns-in_default-clause-cut
returns-in_default-clause-cut c place within =
    no_end_until c.args.bytes.now c.split_at.result.1.now c.loop-at.at c.split_at.ensures.back c.loop-at.invariant (length c.split_at.result.1.now)
    c.in_default.ensures place (omega (arith, c.split_at.ensures.back_len, within))

pub returns-then-ends_empty_line-clause-cut : goal.returns-then-ends_empty_line-clause-cut
returns-then-ends_empty_line-clause-cut c place within =
    no_end_until c.args.bytes.now c.split_at.result.1.now c.loop-at.at c.split_at.ensures.back c.loop-at.invariant c.in-Some.behind
    c.in-Some.ensures.0.before place (omega (arith, within))

pub loop-at-preserved : goal.loop-at-preserved
loop-at-preserved c =
    no_end_to_feed c.args.bytes.now c.split_at.result.1.now c.loop-at.at c.split_at.ensures.back c.loop-at.invariant c.in-Some.behind
    c.in-Some.ensures.0 c.if-ends_empty_line.ensures
