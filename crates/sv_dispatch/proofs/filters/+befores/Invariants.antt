use Rattle.std.proofs.Common.{◌-◌, length}
use Rattle.sv_dispatch.proofs.filters.+befores.Given as goal

abbrev pub decreases-befores : goal.decreases-befores
decreases-befores g l = length l.chain.now - l.place
