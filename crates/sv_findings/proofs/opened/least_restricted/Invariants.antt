use Rattle.std.proofs.Common.{◌≡◌, map, take}
use Rattle.sv_constraints.specs.Verdict.{least_where}
use Rattle.sv_findings.specs.Opened.{is_restricted}
use Rattle.sv_findings.proofs.opened.least_restricted.Given as goal

abbrev pub invariant-loop-member : goal.invariant-loop-member
invariant-loop-member l = l.least ≡ least_where is_restricted (map (λ member. member.now) (take l.member-index l.members))
