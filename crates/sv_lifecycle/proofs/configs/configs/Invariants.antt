use Rattle.std.proofs.Common.{◌≡◌, map, take}
use Rattle.sv_lifecycle.specs.Calls.{config_at}
use Rattle.sv_lifecycle.proofs.configs.configs.Given as goal

abbrev pub invariant-loop-place : goal.invariant-loop-place
invariant-loop-place l = l.all.items ≡ map (config_at l.app) (take l.place-index l.places)
