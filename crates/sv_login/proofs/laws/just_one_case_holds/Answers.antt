use Rattle.sv_login.proofs.CaseLemmas.{holds, tells}
use Rattle.sv_login.proofs.laws.just_one_case_holds.Goals as goal

pub returns : goal.returns
returns c found other = (tells found other, holds found other)
