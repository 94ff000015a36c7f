use Rattle.std.proofs.Common.{refl, sym, ap, ◌∙◌, Some}
use Rattle.std.specs.Option.{option_or}
use Rattle.sv_mapping.proofs.Nodes.{adds, prefix_at}
use Rattle.sv_mapping.proofs.trie.Trie.add_prefix.Goals as goal

pub returns : goal.returns
returns c =
    let nodes = c.enter.new.self.nodes.items in
    let within = c.in_ok-at.ensures.within in
    adds c.args.self.now.nodes.items c.enter.new.self.nodes.items _ c.in_ok-at.at c.args.place c.index_mut.result.now _ (λ node. node.prefix) (λ node. node.exact) c.in_ok-at.ensures c.in_ok-at.ensures.prefixes c.in_ok-at.ensures.exacts c.index_mut.ensures.value refl
    (c.or.ensures ∙ ap (λ o. option_or o (Some c.args.place)) (sym (prefix_at nodes c.in_ok-at.at c.index.result.now within c.index.ensures) ∙ prefix_at nodes c.in_ok-at.at c.index_mut.result.now within c.index_mut.ensures.value))
    refl
