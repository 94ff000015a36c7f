use Rattle.std.proofs.Common.{◌≡◌, take}
use Rattle.sv_session.proofs.stored_session.copied_attributes.Given as goal

abbrev pub invariant-loop-attribute : goal.invariant-loop-attribute
invariant-loop-attribute l = l.copies.items ≡ take l.attribute-index l.attributes
