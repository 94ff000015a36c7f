use Rattle.std.proofs.Common.{◌≡◌, length, take}
use Rattle.sv_saved_sessions.specs.Hmac.{padded_key}
use Rattle.sv_saved_sessions.proofs.hmac.padded_key.Given as goal

abbrev pub invariant-loop-place : goal.invariant-loop-place
invariant-loop-place l = (length l.block ≡ 64) × (take l.place l.block ≡ take l.place (padded_key l.pad l.key))
