use Rattle.std.proofs.Common.{◌≡◌, ◌++◌, drop, Ok}
use Rattle.std.specs.String.{string_bytes}
use Rattle.sv_text.specs.Steps.{◌>>=◌}
use Rattle.sv_program.specs.Uncovered as spec
use Rattle.sv_program.proofs.uncovered_report.uncovered_lines.Given as goal

-- the remaining texts give the remaining lines
abbrev pub invariant-loop-texts : goal.invariant-loop-texts
invariant-loop-texts l = (spec.uncovered_lines (drop l.texts-index l.texts) >>= λ rest. Ok (string_bytes l.lines ++ rest)) ≡ spec.uncovered_lines l.texts
