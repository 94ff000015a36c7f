use Rattle.std.proofs.Common.{◌≡◌, ◌+◌, drop}
use Rattle.sv_uri.specs.Plain as spec
use Rattle.sv_uri.proofs.plain.plain_len.Given as goal

abbrev pub invariant-loop-place : goal.invariant-loop-place
invariant-loop-place l = spec.plain_len 0 l.target ≡ spec.plain_len l.before (drop l.place l.target) + l.place
