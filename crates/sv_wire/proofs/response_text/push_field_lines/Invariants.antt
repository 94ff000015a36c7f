use Rattle.std.proofs.Common.{◌≡◌, ◌++◌, take}
use Rattle.sv_wire.specs.ResponseText.{field_lines}
use Rattle.sv_wire.proofs.response_text.push_field_lines.Given as goal

abbrev pub invariant-loop-field : goal.invariant-loop-field
invariant-loop-field l = l.head.items ≡ l.initial.head.items ++ field_lines (take l.field-index l.fields)
