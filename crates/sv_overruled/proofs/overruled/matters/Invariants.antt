use Rattle.std.proofs.Common.{◌≡◌, false, map, take}
use Rattle.std.specs.List.{list_any}
use Rattle.sv_overruled.specs.Overruled.{matters_among}
use Rattle.sv_overruled.proofs.overruled.matters.Given as goal

abbrev pub invariant-loop-covering : goal.invariant-loop-covering
invariant-loop-covering l = list_any (λ list. matters_among l.rules l.number (map (λ member. member.now) list.items)) (take l.covering-index l.coverings) ≡ false
