use Rattle.std.proofs.Common.{◌+◌, ◌-◌, ◌≤◌, length}
use Rattle.sv_program.proofs.Samples.{NoFewer}
use Rattle.sv_program.proofs.value_place.Samples.are_taken.Given as goal

-- fewer brackets will not do
abbrev pub invariant-loop-count : goal.invariant-loop-count
invariant-loop-count l = (l.count ≤ length l.fn.self.closers.now + 1) × NoFewer l.fn.self.steps.now l.before l.count

abbrev pub decreases-loop-count : goal.decreases-loop-count
decreases-loop-count l = length l.fn.self.closers.now + 1 - l.count
