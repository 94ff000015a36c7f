use Rattle.sv_program.specs.Keys.{takes}
use Rattle.sv_program.proofs.taken.takes.Goals as goal

pub returns : goal.returns
unfolding takes
returns c = c.takes_among.ensures
