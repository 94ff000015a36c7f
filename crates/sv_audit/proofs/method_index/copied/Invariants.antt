use Rattle.std.proofs.Common.{◌≡◌, take}
use Rattle.sv_audit.proofs.method_index.copied.Given as goal

abbrev pub invariant-loop-member : goal.invariant-loop-member
invariant-loop-member l = l.copies.items ≡ take l.member-index l.members
