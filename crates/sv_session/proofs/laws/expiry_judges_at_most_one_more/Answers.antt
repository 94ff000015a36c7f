use Rattle.sv_session.proofs.JudgeLemmas.{judged_once}
use Rattle.sv_session.proofs.laws.expiry_judges_at_most_one_more.Goals as goal

pub returns : goal.returns
returns c store judged = judged_once judged store.sessions
