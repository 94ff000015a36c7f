use Rattle.std.proofs.Common.{sym, ◌∙◌}
use Rattle.sv_wire.proofs.BareLemmas.{bare_continue}
use Rattle.sv_wire.proofs.head.awaits_continue.Goals as goal

pub returns-then-not-told : goal.returns-then-not-told
returns-then-not-told c = sym (bare_continue c.args.fields.now (sym c.requires ∙ c.if-not-told.true) c.args.minor)
