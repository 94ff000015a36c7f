use Rattle.std.proofs.Common.{◌∙◌, ap, map}
use Rattle.sv_text.specs.Gives.{GivesAnswer}
use Rattle.sv_audit_command.specs.RowAnswers.{answered_paths}
use Rattle.sv_audit_command.specs.RowPaths.{row_patterns}
use Rattle.sv_audit_command.proofs.MappingLemmas.{same_rows}
use Rattle.sv_audit_command.proofs.row_paths.reported_rows.Goals as goal

pub returns : goal.returns
returns c =
    same_rows (λ rows. GivesAnswer c.rows_with.result rows) c.args.patterns.now c.in_ok-answered.answered (answered_paths c.args.patterns.now)
    (map (λ other. other.now) c.as_slice-3.result.now) (row_patterns c.args.rows) c.args.place.now.reaches c.args.place.now.listed c.args.place.now.nested.now c.args.rows c.in_ok-answered.ensures
    (ap (map (λ other. other.now)) c.as_slice-3.ensures.value ∙ c.in_ok-others.ensures ∙ c.as_slice-2.ensures ∙ c.in_ok-texts.ensures ∙ ap row_patterns c.as_slice.ensures)
    c.rows_with.ensures
