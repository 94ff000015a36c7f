use Rattle.std.proofs.Common.{◌≡◌, ◌++◌, ◌≤◌, ◌-◌, drop, length, map}
use Rattle.sv_audited_contexts.proofs.LineLemmas.{glued, slice}
use Rattle.sv_audited_contexts.specs.DescriptorLines.{parts_of}
use Rattle.sv_audited_contexts.proofs.descriptor_lines.parts_of.Given as goal

-- the parts so far, and those of the rest of the text, the first of which goes on the part that is not ended
abbrev pub invariant-loop-at : goal.invariant-loop-at
invariant-loop-at l = record {
  rising : l.start ≤ l.at;
  within : l.at ≤ length l.text;
  found : map (λ part. part.now) l.parts.items ++ glued (slice l.text l.start l.at) (parts_of (drop l.at l.text)) ≡ parts_of l.text;
}

abbrev pub decreases-loop-at : goal.decreases-loop-at
decreases-loop-at l = length l.text - l.at
