use Rattle.std.proofs.Common.{◌≡◌, ◌+◌, ◌<◌, length}
use Rattle.std.specs.Option.{option_copied}
use Rattle.sv_mapping.specs.Segments.{rest_segments, segments_of}
use Rattle.sv_mapping.specs.Trie.{along, child, exact, looked_up, prefix}
use Rattle.sv_mapping.proofs.trie.Trie.walk.Given as goal

abbrev pub invariant-loop-rest : goal.invariant-loop-rest
invariant-loop-rest l =
    let nodes = l.self.nodes.items in
    let rest = rest_segments (option_copied l.rest) in
    record {
      within : l.at < length nodes;
      probes : l.probes + looked_up (child nodes) l.at rest ≡ looked_up (child nodes) 0 (segments_of l.path);
      found : along (child nodes) (exact nodes) (prefix nodes) l.at l.prefix rest ≡ along (child nodes) (exact nodes) (prefix nodes) 0 (prefix nodes 0) (segments_of l.path);
    }

abbrev pub decreases-loop-rest : goal.decreases-loop-rest
decreases-loop-rest l = length (rest_segments (option_copied l.rest))
