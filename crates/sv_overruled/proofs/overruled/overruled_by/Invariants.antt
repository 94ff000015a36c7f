use Rattle.std.proofs.Common.{◌≡◌, ◌||◌, ◌==◌, length, map, not, take}
use Rattle.std.specs.Prelude.{filter}
use Rattle.std.specs.List.{list_any}
use Rattle.sv_overruled.specs.Overruled.{matters_among, others}
use Rattle.sv_overruled.proofs.overruled.overruled_by.Given as goal

abbrev pub invariant-loop-member : goal.invariant-loop-member
invariant-loop-member l = l.numbers.items ≡ filter
    (λ number. not (length (others number (map (λ member. member.now) l.members)) == 0 || list_any (λ list. matters_among l.rules number (map (λ member. member.now) list.items)) l.coverings))
    (map (λ member. member.now.number) (take l.member-index l.members))
