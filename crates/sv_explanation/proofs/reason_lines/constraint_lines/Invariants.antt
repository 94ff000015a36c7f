use Rattle.std.proofs.Common.{◌≡◌, take}
use Rattle.std.specs.String.{string_bytes}
use Rattle.sv_explanation.specs.ReasonLines.{constraint_lines}
use Rattle.sv_explanation.proofs.reason_lines.constraint_lines.Given as goal

abbrev pub invariant-loop-constraint : goal.invariant-loop-constraint
invariant-loop-constraint l = string_bytes l.text ≡ constraint_lines l.file l.method (take l.constraint-index l.listed)
