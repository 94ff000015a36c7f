use Rattle.std.proofs.Common.{rules, ◌+◌, ◌≤◌, length, arith, sym, ap, ◌∙◌}
use Rattle.std.specs.Option.{option_copied, option_or}
use Rattle.sv_mapping.specs.Segments.{rest_segments, segments_of}
use Rattle.sv_mapping.specs.Trie.{along, child, exact, looked_up, prefix}
use Rattle.sv_mapping.proofs.Cuts.{segments_fit}
use Rattle.sv_mapping.proofs.Nodes.{along_none, along_some, child_at, exact_at, looked_least, looked_most, looked_none, looked_some, prefix_at}
use Rattle.sv_mapping.proofs.trie.Trie.walk.Goals as goal

pub overflow_add-probes : goal.overflow_add-probes
overflow_add-probes c =
    let cut = ap (λ r. rest_segments (option_copied r)) c.in-Some.is ∙ c.split_segment.ensures in
    let bound : c.loop-rest.probes + 1 ≤ length c.args.path.now =
    omega (arith, looked_least (child c.args.self.now.nodes.items) c.loop-rest.at _ _ c.split_segment.result.0.now cut, c.loop-rest.invariant.probes, looked_most (child c.args.self.now.nodes.items) 0 (segments_of c.args.path.now), segments_fit c.args.path.now) in
    search (rules, bound)

pub returns-in_default-child-clause-found : goal.returns-in_default-child-clause-found
returns-in_default-child-clause-found c =
    let cut = ap (λ r. rest_segments (option_copied r)) c.in-Some.is ∙ c.split_segment.ensures in
    let none = child_at c.args.self.now.nodes.items c.loop-rest.at c.index-in-Some.result.now c.split_segment.result.0.now c.loop-rest.invariant.within c.index-in-Some.ensures ∙ (sym c.child.ensures ∙ c.in_default-child.is) in
    sym c.loop-rest.invariant.found ∙ along_none c.args.self.now.nodes.items c.loop-rest.at c.loop-rest.prefix _ _ c.split_segment.result.0.now cut none

pub returns-in_default-child-clause-probes : goal.returns-in_default-child-clause-probes
returns-in_default-child-clause-probes c =
    let cut = ap (λ r. rest_segments (option_copied r)) c.in-Some.is ∙ c.split_segment.ensures in
    let none = child_at c.args.self.now.nodes.items c.loop-rest.at c.index-in-Some.result.now c.split_segment.result.0.now c.loop-rest.invariant.within c.index-in-Some.ensures ∙ (sym c.child.ensures ∙ c.in_default-child.is) in
    omega (arith, looked_none c.args.self.now.nodes.items c.loop-rest.at _ _ c.split_segment.result.0.now cut none, c.loop-rest.invariant.probes)

pub index-requires-in-Some-2 : goal.index-requires-in-Some-2
index-requires-in-Some-2 c =
    let some = child_at c.args.self.now.nodes.items c.loop-rest.at c.index-in-Some.result.now c.split_segment.result.0.now c.loop-rest.invariant.within c.index-in-Some.ensures ∙ (sym c.child.ensures ∙ c.in-Some-child.is) in
    rw c.args.self.now.nodes.ok.0 (c.requires.1.edges c.loop-rest.at c.in-Some-child.child c.split_segment.result.0.now some).0

pub loop-rest-preserved : goal.loop-rest-preserved
loop-rest-preserved c =
    let cut = ap (λ r. rest_segments (option_copied r)) c.in-Some.is ∙ c.split_segment.ensures in
    let some = child_at c.args.self.now.nodes.items c.loop-rest.at c.index-in-Some.result.now c.split_segment.result.0.now c.loop-rest.invariant.within c.index-in-Some.ensures ∙ (sym c.child.ensures ∙ c.in-Some-child.is) in
    let within = (c.requires.1.edges c.loop-rest.at c.in-Some-child.child c.split_segment.result.0.now some).0 in
    let nodes = c.args.self.now.nodes.items in
    let held = c.or-prefix.ensures ∙ ap (λ o. option_or o c.loop-rest.prefix) (sym (prefix_at nodes c.in-Some-child.child c.index-in-Some-2.result.now within c.index-in-Some-2.ensures)) in
    record {
      within = within;
      probes = omega (arith, looked_some nodes c.loop-rest.at c.in-Some-child.child _ _ c.split_segment.result.0.now cut some, c.loop-rest.invariant.probes);
      found =
          ap (λ h. along (child nodes) (exact nodes) (prefix nodes) c.in-Some-child.child h (rest_segments (option_copied c.split_segment.result.1))) held
          ∙ (sym (along_some nodes c.loop-rest.at c.in-Some-child.child c.loop-rest.prefix _ _ c.split_segment.result.0.now cut some) ∙ c.loop-rest.invariant.found);
    }

pub returns-clause-found : goal.returns-clause-found
returns-clause-found c =
    let nodes = c.args.self.now.nodes.items in
    sym c.loop-rest.invariant.found
    ∙ (ap (λ r. along (child nodes) (exact nodes) (prefix nodes) c.loop-rest.at c.loop-rest.prefix (rest_segments (option_copied r))) c.in_default.is
    ∙ ap (λ e. (e, c.loop-rest.prefix)) (exact_at nodes c.loop-rest.at c.index-2.result.now c.loop-rest.invariant.within c.index-2.ensures))

pub returns-clause-probes : goal.returns-clause-probes
returns-clause-probes c =
    let ended = ap (λ r. looked_up (child c.args.self.now.nodes.items) c.loop-rest.at (rest_segments (option_copied r))) c.in_default.is in
    omega (arith, ended, c.loop-rest.invariant.probes)
