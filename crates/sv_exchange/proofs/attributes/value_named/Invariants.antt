use Rattle.std.proofs.Common.{◌≡◌, drop}
use Rattle.sv_exchange.specs.Attributes.{value_named}
use Rattle.sv_exchange.proofs.attributes.value_named.Given as goal

abbrev pub invariant-loop-attribute : goal.invariant-loop-attribute
invariant-loop-attribute l = value_named l.name (drop l.attribute-index l.attributes) ≡ value_named l.name l.attributes
