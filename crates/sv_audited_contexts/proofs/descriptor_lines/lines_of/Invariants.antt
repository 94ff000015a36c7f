use Rattle.std.proofs.Common.{◌≡◌, flat_map, take}
use Rattle.sv_audited_contexts.specs.DescriptorLines.{lines_in}
use Rattle.sv_audited_contexts.proofs.descriptor_lines.lines_of.Given as goal

abbrev pub invariant-loop-document : goal.invariant-loop-document
invariant-loop-document l = l.lines.items ≡ flat_map (lines_in l.element) (take l.document-index l.documents)
