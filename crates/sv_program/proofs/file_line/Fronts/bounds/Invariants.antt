use Rattle.std.proofs.Common.{◌≤◌, ◌-◌}
use Rattle.sv_program.specs.FileLine.{IsNarrowed, presence_to}
use Rattle.sv_program.proofs.file_line.Fronts.bounds.Given as goal

abbrev pub invariant-loop-bound : goal.invariant-loop-bound
invariant-loop-bound l = (l.high ≤ l.fn.between.high) × IsNarrowed (presence_to l.fn.self.steps.now l.fn.self.text.now l.fn.self.ends.now) l.low l.bound l.high

abbrev pub decreases-loop-bound : goal.decreases-loop-bound
decreases-loop-bound l = l.high - l.bound
