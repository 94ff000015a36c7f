use Rattle.std.proofs.Common.{◌∙◌}
use Rattle.sv_mapping.proofs.Nodes.{grown}
use Rattle.sv_mapping.proofs.trie.Trie.add_node.Goals as goal

pub returns : goal.returns
returns c =
    let number = c.len-number.ensures ∙ c.args.self.now.nodes.ok.0 in
    rw number (grown c.args.self.now.nodes.items c.push.new.self.items c.new.result c.index_mut.result.now c.add_child.new.self c.args.at c.args.segment.now c.requires c.in_ok-push.ensures.items c.index_mut.ensures.value
    c.new.ensures.children c.new.ensures.exact c.new.ensures.prefix
    (rw number at c.in_ok-add_child.ensures.children) c.in_ok-add_child.ensures.exact c.in_ok-add_child.ensures.prefix)
