use Rattle.std.proofs.Common.{arith, ◌∙◌, ap, append_assoc, map, sym, ◌++◌, ◌∷◌, []}
use Rattle.std.proofs.lemmas.List.FromFn.{map-range_with_len_more}
use Rattle.sv_audited_contexts.specs.DescriptorLines.{line_at, lines_with}
use Rattle.sv_audited_contexts.proofs.descriptor_lines.push_lines.Goals as goal

pub loop-number-preserved : goal.loop-number-preserved
loop-number-preserved c =
    let before = c.args.lines.now.items in
    let first = c.args.elements.first in
    let number = c.loop-number.number in
    c.in_ok-push.ensures.items
    ∙ ap (λ line. c.loop-number.lines.items ++ line ∷ []) c.line_at.ensures
    ∙ ap (λ items. items ++ line_at first number ∷ []) c.loop-number.invariant
    ∙ append_assoc before (lines_with first number) (line_at first number ∷ [])
    ∙ ap (λ lines. before ++ lines) (sym (map-range_with_len_more (line_at first) 0 number number (omega arith)))
