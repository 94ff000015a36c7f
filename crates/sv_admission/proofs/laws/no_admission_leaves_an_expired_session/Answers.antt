use Rattle.sv_admission.proofs.Fresh.{fresh_admission}
use Rattle.sv_admission.proofs.laws.no_admission_leaves_an_expired_session.Goals as goal

pub returns : goal.returns
returns c = λ content standing users asked store fresh. fresh_admission c.no_call_leaves_an_expired_session.ensures users asked content standing store fresh
