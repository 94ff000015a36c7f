use Rattle.sv_program.specs.Configuration.{descriptor_in, users_in}
use Rattle.sv_deployments.proofs.Ending.{both_given}
use Rattle.sv_web.proofs.deployments.configured.Goals as goal

pub returns : goal.returns
returns c =
    rw c.both.ensures
    (both_given c.descriptor_in.result c.realm_in.result (descriptor_in c.args.texts.now) (users_in c.args.texts.now) c.descriptor_in.ensures c.realm_in.ensures)
