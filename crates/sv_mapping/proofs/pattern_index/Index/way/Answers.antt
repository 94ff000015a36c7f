use Rattle.std.proofs.Common.{arith, sym, ◌∙◌}
use Rattle.sv_mapping.specs.Segments.{segments_of}
use Rattle.sv_mapping.specs.Trie.{child}
use Rattle.sv_mapping.proofs.Found.{pair_first, pair_second, way_found}
use Rattle.sv_mapping.proofs.Nodes.{looked_most}
use Rattle.sv_mapping.proofs.pattern_index.Index.way.Goals as goal

pub returns-then-is_rooted-clause-exact : goal.returns-then-is_rooted-clause-exact
returns-then-is_rooted-clause-exact c = λ patterns finds.
    let rooted = sym c.is_rooted.ensures ∙ c.if-is_rooted.true in
    rw rooted (pair_first _ _ _ _ (sym c.walk.ensures.found ∙ way_found c.args.self.now patterns finds c.args.path.now rooted))

pub returns-then-is_rooted-clause-prefix : goal.returns-then-is_rooted-clause-prefix
returns-then-is_rooted-clause-prefix c = λ patterns finds.
    let rooted = sym c.is_rooted.ensures ∙ c.if-is_rooted.true in
    rw rooted (pair_second _ _ _ _ (sym c.walk.ensures.found ∙ way_found c.args.self.now patterns finds c.args.path.now rooted))

pub returns-then-is_rooted-clause-probes : goal.returns-then-is_rooted-clause-probes
returns-then-is_rooted-clause-probes c = omega (arith, c.walk.ensures.probes, looked_most (child c.args.self.now.trie.nodes.items) 0 (segments_of c.args.path.now))
