use Rattle.std.proofs.Common.{◌≡◌, ◌+◌, ◌^◌, ◌≤◌, ◌++◌, drop, length, map}
use Rattle.std.specs.List.{concat}
use Rattle.sv_audited_contexts.specs.DescriptorLines.{documents_from}
use Rattle.sv_audited_contexts.proofs.descriptor_lines.documents_of.Given as goal

-- the documents so far, and those of the remaining parts, which have no more lines than bytes
abbrev pub invariant-loop-part : goal.invariant-loop-part
invariant-loop-part l = record {
  few : l.line + length (concat (map (λ part. part.now) (drop l.part-index l.parts))) ≤ 2 ^ 63;
  found : l.documents.items ++ documents_from l.line (map (λ part. part.now) (drop l.part-index l.parts)) ≡ documents_from 1 (map (λ part. part.now) l.parts);
}
