use Rattle.std.proofs.Common.{◌≡◌, take}
use Rattle.sv_program.specs.ValuePlace.{closers_of}
use Rattle.sv_program.proofs.value_place.closers_of.Given as goal

-- the brackets of the steps so far
abbrev pub invariant-loop-step : goal.invariant-loop-step
invariant-loop-step l = l.brackets.items ≡ closers_of (take l.step-index l.steps)
