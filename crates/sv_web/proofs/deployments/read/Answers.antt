use Rattle.sv_deployments.specs.FilesFault.{served_files}
use Rattle.sv_deployments.proofs.Ending.{both_given}
use Rattle.sv_web.proofs.deployments.read.Goals as goal
use Rattle.sv_web.specs.Deployments.{configured, texts_of}

pub returns : goal.returns
returns c =
    rw c.both.ensures
    (both_given c.configured.result c.files_of.result (configured (texts_of c.args.path.now c.args.descriptor c.args.users))
    (served_files c.args.path.now c.args.files) (rw c.in_ok-texts.ensures at c.configured.ensures) c.files_of.ensures)
