use Rattle.sv_chain.proofs.Named.{chains_by_mappings}
use Rattle.sv_chain.proofs.laws.mappings_make_chains.Goals as goal

pub returns : goal.returns
returns c = chains_by_mappings
