use Rattle.sv_headline.proofs.ProgramHandingOver.{the_program_undoes_no_logins}
use Rattle.sv_headline.proofs.handed_over.the_program_undoes_no_logins.Goals as goal

pub returns : goal.returns
returns g c = the_program_undoes_no_logins g.W.Words.draws
