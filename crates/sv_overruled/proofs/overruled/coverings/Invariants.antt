use Rattle.std.proofs.Common.{◌≡◌, map, take}
use Rattle.std.specs.Prelude.{filter}
use Rattle.sv_constraints.specs.Covering.{covers}
use Rattle.sv_overruled.proofs.overruled.coverings.Given as goal

abbrev pub invariant-loop-name : goal.invariant-loop-name
invariant-loop-name l = map (λ list. map (λ member. member.now) list.items) l.found.items
    ≡ map (λ name. filter (λ member. covers member l.pattern name.now) (map (λ member. member.now) l.members)) (take l.name-index l.names)
