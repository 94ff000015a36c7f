use Rattle.sv_headline.proofs.runs.constraints_change_by_edits_alone.Goals as goal

pub returns : goal.returns
returns g c = c.constraints_change_by_edits_alone.ensures c.edits_alone_change_the_constraints.ensures
