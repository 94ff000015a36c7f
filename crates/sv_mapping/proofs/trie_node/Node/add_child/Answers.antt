use Rattle.std.proofs.Common.{arith}
use Rattle.std.proofs.lemmas.Map.Text.{text_keys}
use Rattle.sv_mapping.proofs.trie_node.Node.add_child.Goals as goal

pub returns-clause-children : goal.returns-clause-children
returns-clause-children c = grind (arith, text_keys)
