use Rattle.sv_realm.proofs.First.{checks_the_named}
use Rattle.sv_realm.proofs.laws.a_checked_caller_is_the_named_one.Goals as goal

pub returns : goal.returns
returns c = checks_the_named
