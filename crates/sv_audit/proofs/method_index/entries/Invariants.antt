use Rattle.std.proofs.Common.{◌≡◌, ℕ, List, map, take}
use Rattle.sv_policy.specs.Groups.{members_in}
use Rattle.sv_audit.specs.MethodIndex.{entries}
use Rattle.sv_audit.proofs.method_index.entries.Given as goal

abbrev pub invariant-loop-member : goal.invariant-loop-member
invariant-loop-member l = (q : List ℕ) → members_in l.found q ≡ entries l.pattern (map (λ name. name.now) l.names) (map (λ member. member.now) (take l.member-index l.members)) q
