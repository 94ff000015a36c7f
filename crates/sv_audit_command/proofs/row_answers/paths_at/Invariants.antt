use Rattle.std.proofs.Common.{◌≡◌, map, take}
use Rattle.std.specs.Prelude.{filter}
use Rattle.sv_audit_command.specs.RowAnswers.{is_at}
use Rattle.sv_audit_command.proofs.row_answers.paths_at.Given as goal

abbrev pub invariant-loop-path : goal.invariant-loop-path
invariant-loop-path l = map (λ path. path.now) l.found.items ≡ filter (is_at l.pattern) (take l.path-index l.paths)
