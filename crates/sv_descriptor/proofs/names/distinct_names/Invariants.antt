use Rattle.sv_descriptor.proofs.Differing.{Distinct}
use Rattle.sv_descriptor.proofs.names.distinct_names.Given as goal

abbrev pub invariant-loop-item : goal.invariant-loop-item
invariant-loop-item g l = Distinct g.N.Named.its_name l.fn.items l.names l.item-index
