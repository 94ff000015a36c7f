use Rattle.sv_arguments.proofs.Nearest.{near_is_nearest, others_are_far}
use Rattle.sv_arguments.proofs.near.a_near_name_is_the_nearest.Goals as goal

pub returns-clause-near : goal.returns-clause-near
returns-clause-near c = near_is_nearest

pub returns-clause-far : goal.returns-clause-far
returns-clause-far c = others_are_far
