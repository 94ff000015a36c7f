use Rattle.std.proofs.Common.{◌≤◌}
use Rattle.sv_program.specs.FileLine.{AreOpen, presence_to}
use Rattle.sv_program.proofs.file_line.Fronts.last_toml.Given as goal

abbrev pub invariant-loop-number : goal.invariant-loop-number
invariant-loop-number l = (l.number ≤ l.middle) × AreOpen (presence_to l.fn.self.steps.now l.fn.self.text.now l.fn.self.ends.now) l.number l.middle

abbrev pub decreases-loop-number : goal.decreases-loop-number
decreases-loop-number l = l.number
