use Rattle.std.proofs.Common.{◌≡◌, map, take}
use Rattle.std.specs.Prelude.{fold}
use Rattle.sv_policy.specs.Patterns.{kept_once, listed_in}
use Rattle.sv_policy.proofs.patterns.keep_listed.Given as goal

abbrev pub invariant-loop-collection : goal.invariant-loop-collection
invariant-loop-collection l = map (λ pattern. pattern.now) l.kept.items ≡ fold kept_once (map (λ pattern. pattern.now) l.initial.kept.items) (listed_in (take l.collection-index l.collections))
