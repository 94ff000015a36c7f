use Rattle.std.proofs.Common.{◌≡◌, ◌&&◌, false, map, not, take}
use Rattle.std.specs.List.{list_any}
use Rattle.sv_overruled.specs.Overruled.{decide_alike, has_number, others}
use Rattle.sv_overruled.proofs.overruled.matters_among.Given as goal

abbrev pub invariant-loop-member : goal.invariant-loop-member
invariant-loop-member l = list_any (λ own. has_number l.number own && not (decide_alike l.rules own (others l.number (map (λ member. member.now) l.members)))) (map (λ member. member.now) (take l.member-index l.members)) ≡ false
