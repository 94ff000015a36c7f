use Rattle.sv_descriptor.proofs.agreement.text_of.Goals as goal

pub returns : goal.returns
returns c = c.text.ensures.value
