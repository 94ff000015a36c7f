use Rattle.std.proofs.Common.{map, take}
use Rattle.sv_descriptor.specs.Names.{HaveSame}
use Rattle.sv_audit_command.proofs.accepted.accepted_lines.Given as goal

abbrev pub invariant-loop-part : goal.invariant-loop-part
invariant-loop-part l = HaveSame l.lines (map (λ part. part.now) (take l.part-index l.part-items))
