use Rattle.std.proofs.Common.{◌≡◌, ◌++◌, map, take}
use Rattle.std.specs.Prelude.{filter}
use Rattle.sv_policy.specs.Patterns.{lists_pattern}
use Rattle.sv_policy.proofs.listed_tables.push_members.Given as goal

abbrev pub invariant-loop-constraint : goal.invariant-loop-constraint
invariant-loop-constraint l = map (λ member. member.now) l.members.items ≡ map (λ member. member.now) l.initial.members.items ++ filter (λ constraint. lists_pattern constraint l.pattern) (take l.constraint-index l.constraints)
