use Rattle.sv_connection.specs.Slots.{Unused}
use Rattle.sv_connection.proofs.LawLemmas.{course_rests}
use Rattle.sv_connection.proofs.loop_laws.rest_is_for_something.Goals as goal

pub returns : goal.returns
returns g c = λ actions at along rests. course_rests g.P.Peer.ways Unused actions at tt along rests
