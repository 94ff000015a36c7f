use Rattle.std.proofs.Common.{◌≡◌, map, take}
use Rattle.sv_overruled.specs.Overruled.{others}
use Rattle.sv_overruled.proofs.alike.others.Given as goal

abbrev pub invariant-loop-member : goal.invariant-loop-member
invariant-loop-member l = map (λ member. member.now) l.found.items ≡ others l.number (map (λ member. member.now) (take l.member-index l.members))
