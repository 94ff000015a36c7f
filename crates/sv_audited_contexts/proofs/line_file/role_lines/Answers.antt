use Rattle.sv_audited_contexts.proofs.RoleLemmas.{no_role, one_role}
use Rattle.sv_audited_contexts.proofs.line_file.role_lines.Goals as goal

pub loop-line-preserved-in_default : goal.loop-line-preserved-in_default
loop-line-preserved-in_default c =
    no_role c.args.lines.now c.loop-line.line-index _ c.loop-line.numbers.items c.loop-line-test.true c.in_default.ensures c.loop-line.invariant

pub loop-line-preserved : goal.loop-line-preserved
loop-line-preserved c =
    one_role c.args.lines.now c.loop-line.line-index _ c.loop-line.numbers.items c.push.new.self.items c.in-Some.text.now c.number.result
    c.loop-line-test.true c.in-Some.ensures c.number.ensures c.in_ok-push.ensures.items c.loop-line.invariant
