use Rattle.std.proofs.Common.{◌≡◌, take}
use Rattle.sv_streams.proofs.memory_stream.copy_front.Given as goal

abbrev pub invariant-loop-place : goal.invariant-loop-place
invariant-loop-place l = take l.place l.buffer ≡ take l.place l.bytes
