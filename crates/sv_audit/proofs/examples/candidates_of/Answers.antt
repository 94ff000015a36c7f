use Rattle.sv_audit.proofs.examples.candidates_of.Goals as goal

pub returns-in-Prefix : goal.returns-in-Prefix
returns-in-Prefix c = rw c.in-Prefix.is c.around-in-Prefix.ensures
