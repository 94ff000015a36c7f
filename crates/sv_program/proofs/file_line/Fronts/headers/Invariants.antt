use Rattle.std.proofs.Common.{◌≡◌, ◌++◌, drop}
use Rattle.sv_program.specs.FileLine.{headers_from}
use Rattle.sv_program.proofs.file_line.Fronts.headers.Given as goal

-- the numbers so far, and those at the other ends
abbrev pub invariant-loop-end : goal.invariant-loop-end
invariant-loop-end l = (l.number ≡ l.end-index) × (l.numbers.items ++ headers_from l.number l.fn.self.text.now (drop l.end-index l.fn.self.ends.now) ≡ headers_from 0 l.fn.self.text.now l.fn.self.ends.now)
