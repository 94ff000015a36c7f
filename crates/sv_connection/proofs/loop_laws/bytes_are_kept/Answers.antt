use Rattle.sv_connection.specs.Slots.{Open, Unused}
use Rattle.sv_connection.proofs.LawLemmas.{course_given, course_sent}
use Rattle.sv_connection.proofs.loop_laws.bytes_are_kept.Goals as goal

pub returns : goal.returns
returns g c = λ actions at along.
    (course_given g.P.Peer.ways Unused (Open at) actions tt along, course_sent g.P.Peer.ways Unused (Open at) actions tt along)
