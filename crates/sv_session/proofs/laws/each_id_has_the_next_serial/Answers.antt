use Rattle.sv_session.proofs.IdLemmas.{next_serials, pairs_differ}
use Rattle.sv_session.proofs.laws.each_id_has_the_next_serial.Goals as goal

pub returns-clause-next : goal.returns-clause-next
returns-clause-next c = next_serials

pub returns-clause-differ : goal.returns-clause-differ
returns-clause-differ c = pairs_differ
