use Rattle.std.proofs.Common.{◌∙◌, ap, map}
use Rattle.std.specs.Prelude.{filter}
use Rattle.sv_text.specs.Gives.{GivesAnswer}
use Rattle.sv_audit_command.specs.RowAnswers.{is_at}
use Rattle.sv_audit_command.proofs.AnswerLemmas.{same_answers}
use Rattle.sv_audit_command.proofs.row_answers.answers_among.Goals as goal

pub returns : goal.returns
returns c =
    same_answers (λ answers. GivesAnswer c.answers_of.result answers) c.as_slice-2.result.now c.args.answered.now.names
    (map (λ path. path.now) c.as_slice-3.result.now) (filter (is_at c.args.pattern.now) c.args.answered.now.paths) c.as_slice-2.ensures
    (ap (map (λ path. path.now)) c.as_slice-3.ensures.value ∙ c.in_ok-paths.ensures ∙ ap (filter (is_at c.args.pattern.now)) c.as_slice.ensures)
    c.answers_of.ensures
