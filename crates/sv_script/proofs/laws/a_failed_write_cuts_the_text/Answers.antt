use Rattle.sv_script.proofs.RunJoins.{cut_text}
use Rattle.sv_script.proofs.laws.a_failed_write_cuts_the_text.Goals as goal

pub returns : goal.returns
returns g c = cut_text g.O.Stream.makes
