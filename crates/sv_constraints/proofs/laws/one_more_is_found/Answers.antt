use Rattle.sv_constraints.proofs.Found.{found_more}
use Rattle.sv_constraints.proofs.Least.{least_where_more}
use Rattle.sv_constraints.proofs.laws.one_more_is_found.Goals as goal

pub returns-clause-least : goal.returns-clause-least
returns-clause-least c = least_where_more

pub returns-clause-found : goal.returns-clause-found
returns-clause-found c = found_more
