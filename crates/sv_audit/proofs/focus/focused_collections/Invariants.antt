use Rattle.std.proofs.Common.{◌≡◌, take}
use Rattle.sv_audit.specs.Focus.{focused_collections}
use Rattle.sv_audit.proofs.focus.focused_collections.Given as goal

abbrev pub invariant-loop-collection : goal.invariant-loop-collection
invariant-loop-collection l = l.copies.items ≡ focused_collections l.pattern (take l.collection-index l.collections)
