use Rattle.std.proofs.Common.{sym, ◌∙◌}
use Rattle.sv_audit_command.proofs.AnswerLemmas.{any_of_map}
use Rattle.sv_audit_command.proofs.row_answers.have_answer.Goals as goal

pub returns : goal.returns
returns c = c.any_is_answered_by.ensures ∙ sym (any_of_map _ _ c.args.paths.now)
