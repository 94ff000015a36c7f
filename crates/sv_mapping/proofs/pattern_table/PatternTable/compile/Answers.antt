use Rattle.std.proofs.Common.{◌≡◌, ◌∷◌, [], ◌++◌, arith, length, take, sym, ap, ◌∙◌}
use Rattle.std.proofs.lemmas.List.{length-take, take_more}
use Rattle.sv_mapping.proofs.pattern_table.PatternTable.compile.Goals as goal

pub add-requires-clause-trie : goal.add-requires-clause-trie
add-requires-clause-trie c = c.loop-place.invariant.finds.trie

pub loop-place-preserved : goal.loop-place-preserved
loop-place-preserved c =
    let patterns = c.args.patterns.now in
    let at = c.loop-place.place in
    let longer = take_more patterns at c.index-patterns-place.result c.loop-place-test.true in
    let text = ap (λ p. take at patterns ++ p ∷ []) (sym c.index-patterns-place.is) in
    let count : at ≡ length (take at patterns) = omega (arith, length-take at patterns, c.loop-place-test.true) in
    record {
      finds = rw (longer ∙ text) (c.in_ok-add.ensures (take at patterns) c.loop-place.invariant.finds count);
      texts = c.in_ok-push.ensures.items ∙ (ap (λ t. t ++ c.in_ok-copy_of.field-0 ∷ []) c.loop-place.invariant.texts ∙ (ap (λ p. take at patterns ++ p ∷ []) (c.in_ok-copy_of.ensures ∙ c.text-text.ensures.value) ∙ sym (longer ∙ text)));
    }
