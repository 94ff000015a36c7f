use Rattle.sv_session.proofs.node.+settle.Given as goal

abbrev pub decreases-settle : goal.decreases-settle
decreases-settle l = l.place
