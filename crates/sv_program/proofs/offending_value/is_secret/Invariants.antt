use Rattle.std.proofs.Common.{◌≡◌, drop}
use Rattle.std.specs.List.{list_any}
use Rattle.sv_program.specs.Offending.{is_secret_step}
use Rattle.sv_program.proofs.offending_value.is_secret.Given as goal

abbrev pub invariant-loop-step : goal.invariant-loop-step
invariant-loop-step l = list_any is_secret_step (drop l.step-index l.steps) ≡ list_any is_secret_step l.steps
