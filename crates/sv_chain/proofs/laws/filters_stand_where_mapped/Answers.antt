use Rattle.sv_chain.proofs.Membership.{stands-mapped}
use Rattle.sv_chain.proofs.laws.filters_stand_where_mapped.Goals as goal

pub returns : goal.returns
returns c = stands-mapped
