use Rattle.std.proofs.Common.{◌≡◌, map, take}
use Rattle.std.specs.Option.{option_copied}
use Rattle.sv_constraints.specs.Findings.{findings_of}
use Rattle.sv_audit.proofs.coverage.findings_for.Given as goal

abbrev pub invariant-loop-member : goal.invariant-loop-member
invariant-loop-member l = l.found ≡ findings_of l.rules (option_copied l.fn.caller) (map (λ member. member.now) (take l.member-index l.members))
