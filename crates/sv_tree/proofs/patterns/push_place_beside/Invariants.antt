use Rattle.std.proofs.Common.{◌≡◌, ◌++◌, map, take}
use Rattle.sv_tree.proofs.patterns.push_place_beside.Given as goal

abbrev pub invariant-loop-pattern : goal.invariant-loop-pattern
invariant-loop-pattern l = l.places.items ≡ l.initial.places.items ++ map (λ pattern. l.place) (take l._pattern-index l.patterns)
