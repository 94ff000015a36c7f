use Rattle.std.proofs.Common.{rules}
use Rattle.sv_report.proofs.FoldedLemmas.{last_written, one_step}
use Rattle.sv_report.proofs.folded_lines.push_parts.Goals as goal

pub loop-limit-preserved : goal.loop-limit-preserved
loop-limit-preserved c = (
  search rules,
  one_step c.loop-limit.limit c.loop-limit.rest.now c.in_ok-rest.rest.now _ _ _ c.loop-limit.invariant.0 c.loop-limit-test.true c.in_ok-rest.ensures.rest
      c.in_ok-rest.ensures.text c.loop-limit.invariant.1,
)

pub returns : goal.returns
returns c = last_written c.push_plain.result c.loop-limit.limit c.loop-limit.rest.now _ _ _ c.loop-limit-test.false c.push_plain.ensures c.loop-limit.invariant.1
