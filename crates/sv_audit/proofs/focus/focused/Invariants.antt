use Rattle.std.proofs.Common.{◌≡◌, map, take}
use Rattle.sv_audit.specs.Focus.{focused}
use Rattle.sv_audit.proofs.focus.focused.Given as goal

abbrev pub invariant-loop-member : goal.invariant-loop-member
invariant-loop-member l = l.copies.items ≡ map (focused l.pattern) (map (λ member. member.now) (take l.member-index l.members))
