use Rattle.std.proofs.Common.{◌∙◌}
use Rattle.sv_deployments.proofs.Checking.{checked}
use Rattle.sv_deployments.specs.Counted.{checked_app, file_counts, user_count}
use Rattle.sv_deployments.proofs.check.check_files.Goals as goal

pub returns : goal.returns
returns c =
    let texts = c.args.texts.now in
    let is =
    checked texts c.args.files c.in_ok-app.app c.in_ok-users.users c.in_ok-files.files c.in_ok-app-2.app
    c.args.faults.now.items c.take.new.faults.items c.take-2.new.faults.items c.take-3.new.faults.items c.take_classes.new.faults.items
    (c.in_ok-app.ensures (checked_app texts) c.checked_app.ensures) (c.in_ok-users.ensures (user_count texts) c.user_count.ensures)
    (c.in_ok-files.ensures (file_counts texts.context c.args.files) c.file_counts.ensures) c.in_ok-app-2.ensures in
    (is.0, c.joined.ensures ∙ is.1)
