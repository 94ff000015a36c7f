use Rattle.sv_descriptor.proofs.Yields.{IfOk-Gives, document-Ok}
use Rattle.sv_descriptor.specs.Descriptor.{descriptor, located_descriptor}
use Rattle.sv_descriptor.specs.WellFormed.{IsWellFormed}
use Rattle.sv_descriptor.proofs.Agreeing.{IsWellFormed-descriptor}
use Rattle.sv_descriptor.proofs.descriptor.read_located_descriptor.Goals as goal

pub returns-clause-well_formed : goal.returns-clause-well_formed
unfolding located_descriptor
returns-clause-well_formed c =
    IfOk-Gives IsWellFormed c.read_document.result (located_descriptor c.args.text.now)
    (document-Ok IsWellFormed descriptor IsWellFormed-descriptor c.args.text.now) c.read_document.ensures
