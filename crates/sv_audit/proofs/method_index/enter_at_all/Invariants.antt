use Rattle.std.proofs.Common.{◌≡◌, ◌++◌, ℕ, List, map, take}
use Rattle.std.specs.List.{flat_map}
use Rattle.sv_policy.specs.Groups.{members_in}
use Rattle.sv_audit.specs.MethodIndex.{at_name}
use Rattle.sv_audit.proofs.method_index.enter_at_all.Given as goal

abbrev pub invariant-loop-name : goal.invariant-loop-name
invariant-loop-name l = (q : List ℕ) → members_in l.found q ≡ members_in l.initial.found q ++ flat_map (at_name q l.member) (map (λ name. name.now) (take l.name-index l.names))
