use Rattle.std.proofs.Common.{sym, ◌∙◌}
use Rattle.sv_wire.proofs.BareLemmas.{bare_framing}
use Rattle.sv_wire.proofs.head.framing_of.Goals as goal

pub returns-then-not-told : goal.returns-then-not-told
returns-then-not-told c = sym (bare_framing c.args.fields.now (sym c.requires ∙ c.if-not-told.true))
