use Rattle.std.proofs.Common.{sym, ap, ◌∙◌}
use Rattle.std.specs.Option.{option_copied}
use Rattle.sv_mapping.specs.Segments.{rest_segments}
use Rattle.sv_mapping.proofs.Growth.{entering_child, entering_new}
use Rattle.sv_mapping.proofs.Nodes.{child_at}
use Rattle.sv_mapping.proofs.trie.Trie.enter.Goals as goal

pub loop-rest-preserved-in-Some-child : goal.loop-rest-preserved-in-Some-child
loop-rest-preserved-in-Some-child c =
    let cut = ap (λ r. rest_segments (option_copied r)) c.in-Some.is ∙ c.split_segment.ensures in
    let some = child_at c.loop-rest.self.nodes.items c.loop-rest.at c.index.result.now c.split_segment.result.0.now c.loop-rest.invariant.enters.within c.index.ensures ∙ (sym c.child.ensures ∙ c.in-Some-child.is) in
    entering_child _ _ _ _ _ c.split_segment.result.0.now c.loop-rest.at c.in-Some-child.child c.loop-rest.invariant cut some

pub loop-rest-preserved : goal.loop-rest-preserved
loop-rest-preserved c =
    let cut = ap (λ r. rest_segments (option_copied r)) c.in-Some.is ∙ c.split_segment.ensures in
    let none = child_at c.loop-rest.self.nodes.items c.loop-rest.at c.index.result.now c.split_segment.result.0.now c.loop-rest.invariant.enters.within c.index.ensures ∙ (sym c.child.ensures ∙ c.in-None.is) in
    entering_new _ _ _ _ _ _ c.split_segment.result.0.now c.loop-rest.at c.in_ok-at-in-None.at c.loop-rest.invariant cut none c.in_ok-at-in-None.ensures
