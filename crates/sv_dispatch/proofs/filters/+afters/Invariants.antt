use Rattle.sv_dispatch.proofs.filters.+afters.Given as goal

abbrev pub decreases-afters : goal.decreases-afters
decreases-afters g l = l.count
