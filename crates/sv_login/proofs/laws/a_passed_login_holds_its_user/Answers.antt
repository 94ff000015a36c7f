use Rattle.sv_login.proofs.PassLemmas.{holds_user}
use Rattle.sv_login.proofs.laws.a_passed_login_holds_its_user.Goals as goal

pub returns : goal.returns
returns c = holds_user
