use Rattle.sv_audit_command.proofs.AnswerLemmas.{next_answered}
use Rattle.sv_audit_command.proofs.row_answers.all_answered.Goals as goal

pub loop-path-preserved : goal.loop-path-preserved
loop-path-preserved c =
    next_answered c.args.patterns.now c.args.paths.now c.loop-path.path-index c.path-item.result c.as_str.result.now c.loop-path.answered.items c.push_answered.new.answered.items
    c.loop-path-test.true c.path-item.is c.as_str.ensures c.loop-path.invariant c.in_ok-push_answered.ensures
