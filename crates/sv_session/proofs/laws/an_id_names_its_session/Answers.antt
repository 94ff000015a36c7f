use Rattle.sv_session.proofs.LiveIdLemmas.{id_names_session}
use Rattle.sv_session.proofs.laws.an_id_names_its_session.Goals as goal

pub returns : goal.returns
returns c = id_names_session
