use Rattle.std.proofs.Common.{◌≡◌, map, take}
use Rattle.std.specs.Prelude.{filter}
use Rattle.std.specs.Option.{option_copied}
use Rattle.sv_policy.specs.Covering.{covers_at}
use Rattle.sv_audit.proofs.coverage.covering.Given as goal

abbrev pub invariant-loop-member : goal.invariant-loop-member
invariant-loop-member l = map (λ member. member.now) l.found.items ≡ filter (λ member. covers_at member l.pattern (option_copied l.fn.method)) (map (λ member. member.now) (take l.member-index l.members))
