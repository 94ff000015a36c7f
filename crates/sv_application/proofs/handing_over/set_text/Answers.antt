use Rattle.sv_application.proofs.handing_over.set_text.Goals as goal

pub returns-clause-set : goal.returns-clause-set
returns-clause-set c = rw c.as_str.ensures at c.set.ensures.set
