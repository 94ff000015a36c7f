use Rattle.std.proofs.Common.{◌≤◌, length}
use Rattle.sv_program.specs.FileLine.{IsNarrowed, presence_to}
use Rattle.sv_program.proofs.file_line.Fronts.between_headers.Given as goal

abbrev pub invariant-loop-rest : goal.invariant-loop-rest
invariant-loop-rest l = (l.bounds.high ≤ l.last) × IsNarrowed (presence_to l.fn.self.steps.now l.fn.self.text.now l.fn.self.ends.now) l.bounds.low l.bounds.low l.bounds.high

abbrev pub decreases-loop-rest : goal.decreases-loop-rest
decreases-loop-rest l = length l.rest
