use Rattle.std.proofs.Common.{◌≡◌, take, map}
use Rattle.sv_wire.specs.Spans.{field_at}
use Rattle.sv_wire.proofs.head.read_fields.Given as goal

abbrev pub invariant-loop-span : goal.invariant-loop-span
invariant-loop-span l = l.fields.items ≡ map (field_at l.text) (take l.span-index l.spans)
