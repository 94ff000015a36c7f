use Rattle.std.proofs.Common.{◌≡◌, ◌++◌, take, vec_items}
use Rattle.sv_script.specs.Escape.{escaped}
use Rattle.sv_script.proofs.escape.push_escaped.Given as goal

abbrev pub invariant-loop-byte : goal.invariant-loop-byte
invariant-loop-byte l = vec_items l.text ≡ vec_items l.fn.text ++ escaped (take l.byte-index l.bytes)
