use Rattle.sv_chain.proofs.ChainOrder.{chain_in_order}
use Rattle.sv_chain.proofs.laws.filters_stand_in_order.Goals as goal

pub returns : goal.returns
returns c = chain_in_order
