use Rattle.std.proofs.Common.{◌≤◌}
use Rattle.sv_program.specs.ValuePlace.{BeginsNowhere}
use Rattle.sv_program.proofs.value_place.Samples.last_beginning.Given as goal

-- the value can begin nowhere after the place
abbrev pub invariant-loop-at : goal.invariant-loop-at
invariant-loop-at l = (l.at ≤ l.last) × BeginsNowhere l.fn.self.text.now l.fn.self.steps.now l.at l.last

abbrev pub decreases-loop-at : goal.decreases-loop-at
decreases-loop-at l = l.at
