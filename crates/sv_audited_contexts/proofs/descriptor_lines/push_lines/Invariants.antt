use Rattle.std.proofs.Common.{◌≡◌, ◌++◌}
use Rattle.sv_audited_contexts.specs.DescriptorLines.{lines_with}
use Rattle.sv_audited_contexts.proofs.descriptor_lines.push_lines.Given as goal

abbrev pub invariant-loop-number : goal.invariant-loop-number
invariant-loop-number l = l.lines.items ≡ l.initial.lines.items ++ lines_with l.elements.first l.number
