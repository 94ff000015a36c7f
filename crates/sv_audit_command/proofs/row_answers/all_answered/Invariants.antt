use Rattle.std.proofs.Common.{◌≡◌, map, take}
use Rattle.std.specs.Prelude.{filter}
use Rattle.sv_audit_command.specs.RowAnswers.{answered_path, is_answered}
use Rattle.sv_audit_command.proofs.row_answers.all_answered.Given as goal

abbrev pub invariant-loop-path : goal.invariant-loop-path
invariant-loop-path l = l.answered.items ≡ map (answered_path l.patterns) (filter (is_answered l.patterns) (take l.path-index l.paths))
