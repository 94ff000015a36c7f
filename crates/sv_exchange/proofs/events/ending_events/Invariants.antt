use Rattle.std.proofs.Common.{◌≡◌, take}
use Rattle.sv_exchange.specs.Sessions.{ending_events}
use Rattle.sv_exchange.proofs.events.ending_events.Given as goal

abbrev pub invariant-loop-attribute : goal.invariant-loop-attribute
invariant-loop-attribute l = l.events.items ≡ ending_events l.number (take l.attribute-index l.attributes)
