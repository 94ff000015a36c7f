use Rattle.std.proofs.Common.{◌≡◌, drop}
use Rattle.sv_exchange.specs.Request.{value_at}
use Rattle.sv_exchange.proofs.exchange.Exchange.header_at.Given as goal

abbrev pub invariant-loop-field : goal.invariant-loop-field
invariant-loop-field l = value_at l.name l.left (drop l.field-index l.field-items) ≡ value_at l.name l.place l.field-items
