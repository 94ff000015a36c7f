use Rattle.sv_listening.proofs.PartLemmas.{parts_below}
use Rattle.sv_listening.proofs.laws.parts_are_what_is_read.Goals as goal

pub returns : goal.returns
returns g c before after calls are =
    let it = parts_below g.S.Stream.makes before after calls are in (it.parts, (it.below, it.made, it.same, it.taken_same, it.failed_same))
