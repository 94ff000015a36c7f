use Rattle.sv_deployments.proofs.Ending.{both_given}
use Rattle.sv_deployments.specs.Results.{both}
use Rattle.sv_deployments.proofs.deployments.read.Goals as goal
use Rattle.sv_deployments.specs.Files.{files_in}
use Rattle.sv_program.specs.Configuration.{descriptor_in, users_in}

pub returns : goal.returns
returns c =
    let texts = c.args.texts.now in
    let configured = both_given c.descriptor_in.result c.realm_in.result (descriptor_in texts) (users_in texts) c.descriptor_in.ensures c.realm_in.ensures in
    rw (c.both.ensures, c.both-configured.ensures)
    (both_given (both c.descriptor_in.result c.realm_in.result) c.files_in.result (both (descriptor_in texts) (users_in texts)) (files_in texts.context c.args.files) configured c.files_in.ensures)
