use Rattle.std.proofs.Common.{◌≡◌, ◌++◌, map, take}
use Rattle.std.specs.List.{flat_map}
use Rattle.sv_audit.proofs.patterns.push_patterns_in.Given as goal

abbrev pub invariant-loop-collection : goal.invariant-loop-collection
invariant-loop-collection l = map (λ text. text.now) l.texts.items ≡ map (λ text. text.now) l.initial.texts.items ++ flat_map (λ collection. collection.patterns) (take l.collection-index l.collection-items)
