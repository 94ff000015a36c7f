use Rattle.std.proofs.Common.{length}
use Rattle.std.specs.Option.{option_copied}
use Rattle.sv_mapping.specs.Segments.{rest_segments, segments_of}
use Rattle.sv_mapping.proofs.Growth.{Entering}
use Rattle.sv_mapping.proofs.trie.Trie.enter.Given as goal

abbrev pub invariant-loop-rest : goal.invariant-loop-rest
invariant-loop-rest l = Entering l.fn.self.nodes.items l.self.nodes.items (segments_of l.path) (rest_segments (option_copied l.rest)) l.at

abbrev pub decreases-loop-rest : goal.decreases-loop-rest
decreases-loop-rest l = length (rest_segments (option_copied l.rest))
