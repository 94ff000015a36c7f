use Rattle.std.proofs.Common.{◌≡◌, ◌+◌, drop, map}
use Rattle.sv_descriptor.specs.Names.{first_repeat, texts_before_repeat}
use Rattle.sv_descriptor.proofs.names.first_repeat.Given as goal

abbrev pub invariant-loop-place : goal.invariant-loop-place
invariant-loop-place g l = l.place + texts_before_repeat l.names (map g.N.Named.its_name (drop l.place l.fn.items)) ≡ first_repeat (map g.N.Named.its_name l.fn.items)
