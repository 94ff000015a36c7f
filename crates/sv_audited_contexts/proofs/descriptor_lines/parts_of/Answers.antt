use Rattle.std.proofs.Common.{arith, length-drop, refl, sym, ◌∙◌}
use Rattle.std.proofs.lemmas.List.{take_rest}
use Rattle.sv_audited_contexts.proofs.LineLemmas.{begun, part_ended, part_goes_on}
use Rattle.sv_audited_contexts.specs.DescriptorLines.{parts_of}
use Rattle.sv_audited_contexts.proofs.descriptor_lines.parts_of.Goals as goal

pub loop-at-init : goal.loop-at-init
loop-at-init c = record { rising = omega arith; within = omega arith; found = rw c.new-parts.ensures.items (begun c.args.text.now) }

pub loop-at-preserved-in_ok-push : goal.loop-at-preserved-in_ok-push
loop-at-preserved-in_ok-push c =
    let first = rw (take_rest c.args.text.now c.loop-at.at) at c.first_line_length.ensures.first in
    let within = rw (take_rest c.args.text.now c.loop-at.at) at c.first_line_length.ensures.within in
    record {
      rising = omega arith;
      within = grind (arith, length-drop, within, c.loop-at.invariant.within);
      found = part_ended c.args.text.now c.loop-at.start c.loop-at.at c.first_line_length.result c.loop-at.parts.items c.push.new.self.items _ (parts_of c.args.text.now)
          first (sym c.is_header.ensures ∙ c.if-is_header.true) c.in_ok-push.ensures.items refl c.loop-at.invariant.found;
    }

pub loop-at-preserved : goal.loop-at-preserved
loop-at-preserved c =
    let first = rw (take_rest c.args.text.now c.loop-at.at) at c.first_line_length.ensures.first in
    let within = rw (take_rest c.args.text.now c.loop-at.at) at c.first_line_length.ensures.within in
    record {
      rising = omega (arith, c.loop-at.invariant.rising);
      within = grind (arith, length-drop, within, c.loop-at.invariant.within);
      found = part_goes_on c.args.text.now c.loop-at.start c.loop-at.at c.first_line_length.result _ (parts_of c.args.text.now)
          c.loop-at.invariant.rising first (sym c.is_header.ensures ∙ c.if-is_header.false) c.loop-at.invariant.found;
    }
