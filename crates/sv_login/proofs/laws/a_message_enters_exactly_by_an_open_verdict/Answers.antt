use Rattle.sv_login.specs.declared.outcome.Outcome.TheVariants.{Entered}
use Rattle.sv_login.proofs.CaseLemmas.{holds, tells}
use Rattle.sv_login.proofs.laws.a_message_enters_exactly_by_an_open_verdict.Goals as goal

pub returns : goal.returns
returns c found = (holds found Entered, tells found Entered)
