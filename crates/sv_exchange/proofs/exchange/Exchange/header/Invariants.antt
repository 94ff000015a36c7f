use Rattle.std.proofs.Common.{◌≡◌, drop}
use Rattle.sv_exchange.specs.Fields.{first_value}
use Rattle.sv_exchange.proofs.exchange.Exchange.header.Given as goal

abbrev pub invariant-loop-field : goal.invariant-loop-field
invariant-loop-field l = first_value l.name (drop l.field-index l.field-items) ≡ first_value l.name l.field-items
