use Rattle.sv_connection.specs.Slots.{Unused}
use Rattle.sv_connection.proofs.LawLemmas.{ends_so}
use Rattle.sv_connection.proofs.loop_laws.ends_have_a_cause.Goals as goal

pub returns : goal.returns
returns g c = λ actions along. ends_so g.P.Peer.ways Unused actions (λ same. absurd (cc)) along
