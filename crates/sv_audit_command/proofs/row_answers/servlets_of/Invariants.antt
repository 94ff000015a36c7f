use Rattle.std.proofs.Common.{◌≡◌, map, take, Some}
use Rattle.std.specs.Prelude.{filter}
use Rattle.sv_audit_command.specs.RowAnswers.{have_answer}
use Rattle.sv_audit_command.proofs.row_answers.servlets_of.Given as goal

abbrev pub invariant-loop-name : goal.invariant-loop-name
invariant-loop-name l = l.servlets.items ≡ filter (λ name. have_answer (map (λ path. path.now) l.paths) (Some name)) (take l.name-index l.names)
