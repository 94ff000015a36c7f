use Rattle.std.proofs.Common.{◌≡◌, map, take}
use Rattle.sv_audit_command.proofs.row_answers.borrowed.Given as goal

abbrev pub invariant-loop-text : goal.invariant-loop-text
invariant-loop-text l = map (λ text. text.now) l.borrowed.items ≡ take l.text-index l.texts
