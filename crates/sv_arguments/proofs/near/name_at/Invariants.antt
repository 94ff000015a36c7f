use Rattle.std.proofs.Common.{◌≡◌, drop, map, nat_eq}
use Rattle.std.specs.List.{find}
use Rattle.sv_arguments.proofs.near.name_at.Given as goal
use Rattle.sv_arguments.specs.Near.{distance, name_at}

abbrev pub invariant-loop-name : goal.invariant-loop-name
invariant-loop-name l =
    find (λ name. nat_eq (distance name l.word) l.distance) (map (λ name. name.now) (drop l.name-index l.names))
    ≡ name_at l.distance (map (λ name. name.now) l.names) l.word
