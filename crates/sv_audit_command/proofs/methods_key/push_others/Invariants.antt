use Rattle.std.proofs.Common.{◌≡◌, ◌++◌, take}
use Rattle.std.specs.String.{string_bytes}
use Rattle.sv_program.specs.Uncovered.{others_text}
use Rattle.sv_audit_command.proofs.methods_key.push_others.Given as goal

abbrev pub invariant-loop-other : goal.invariant-loop-other
invariant-loop-other l = string_bytes l.key ≡ string_bytes l.fn.key ++ others_text (take l.other-index l.others)
