use Rattle.std.specs.Option.{option_copied}
use Rattle.sv_audit.proofs.coverage.findings_for.Goals as goal

pub loop-member-init : goal.loop-member-init
loop-member-init c = c.none-found.ensures c.args.rules.now (option_copied c.args.caller)
