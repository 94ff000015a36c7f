use Rattle.sv_chain.proofs.ChainOrder.{chain_once}
use Rattle.sv_chain.proofs.laws.filters_stand_once.Goals as goal

pub returns : goal.returns
returns c = chain_once
