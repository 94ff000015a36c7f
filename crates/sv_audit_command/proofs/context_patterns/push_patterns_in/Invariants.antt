use Rattle.std.proofs.Common.{◌≡◌, ◌++◌, take}
use Rattle.std.specs.List.{flat_map}
use Rattle.sv_audit_command.proofs.context_patterns.push_patterns_in.Given as goal

abbrev pub invariant-loop-collection : goal.invariant-loop-collection
invariant-loop-collection l = l.patterns.items ≡ l.initial.patterns.items ++ flat_map (λ collection. collection.patterns) (take l.collection-index l.collection-items)
