use Rattle.sv_wire.proofs.LimitLemmas as lemmas
use Rattle.sv_wire.proofs.laws.bodies_are_within_the_limit.Goals as goal

pub returns : goal.returns
returns c = lemmas.bodies_are_within_the_limit
