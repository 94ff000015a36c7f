use Rattle.sv_session.proofs.StoreLemmas.{spent_opening, spent_renaming}
use Rattle.sv_session.proofs.laws.no_serial_follows_the_greatest.Goals as goal

pub returns : goal.returns
returns c store spent = (spent_opening store spent, spent_renaming store spent)
