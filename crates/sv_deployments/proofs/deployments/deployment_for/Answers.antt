use Rattle.std.proofs.Common.{refl}
use Rattle.sv_deployments.proofs.Ending.{ends}
use Rattle.sv_deployments.proofs.InTurn.{as_read, fault_beside, given_beside}
use Rattle.sv_deployments.proofs.deployments.deployment_for.Goals as goal
use Rattle.sv_deployments.specs.Deployments.{components_in, deployment, deployment_for, read_of}

pub returns-in_err-read : goal.returns-in_err-read
returns-in_err-read c =
    let texts = c.args.texts.now in
    ends deployment c.in_err-read.field-0.0 c.from_residual-in_err-read.result (read_of texts c.args.files) (deployment_for texts c.args.files)
    (λ found h. rw (as_read texts c.args.files, h) refl) c.in_err-read.ensures c.from_residual-in_err-read.ensures.1

pub returns-in_err-descriptor : goal.returns-in_err-descriptor
returns-in_err-descriptor c =
    let texts = c.args.texts.now in
    let read = c.in_ok-read.read in
    let failed = fault_beside read c.parts_in-parts.result c.in_err-descriptor.field-0.0 c.in_err-descriptor.ensures in
    ends deployment c.in_err-descriptor.field-0.0 c.from_residual-in_err-descriptor.result (components_in texts read.0.0) (deployment_for texts c.args.files)
    (λ found h. rw (as_read texts c.args.files, c.in_ok-read.ensures, h) refl) (rw failed at c.parts_in-parts.ensures) c.from_residual-in_err-descriptor.ensures.1

pub returns : goal.returns
returns c =
    let read = c.in_ok-read.read in
    let made = given_beside read c.parts_in-parts.result (((c.in_ok-descriptor.descriptor, c.in_ok-descriptor.users), c.in_ok-descriptor.files), c.in_ok-descriptor.parts) c.in_ok-descriptor.ensures in
    let has = rw made.1 at c.parts_in-parts.ensures in
    rw (as_read c.args.texts.now c.args.files, c.in_ok-read.ensures, has, ← made.0, c.in_ok-path.ensures, c.as_str.ensures) refl
