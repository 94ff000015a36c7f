use Rattle.std.proofs.Common.{◌≡◌, drop}
use Rattle.toml.specs.View.{view}
use Rattle.sv_program.specs.Offending.{value_after}
use Rattle.sv_program.proofs.offending_value.value_after.Given as goal

abbrev pub invariant-loop-step : goal.invariant-loop-step
invariant-loop-step l = value_after (drop l.step-index l.steps) (view l.at) ≡ value_after l.steps (view l.fn.value)
