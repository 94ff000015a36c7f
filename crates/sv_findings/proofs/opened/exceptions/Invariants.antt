use Rattle.std.proofs.Common.{◌≡◌, map, take}
use Rattle.std.specs.Prelude.{filter}
use Rattle.sv_findings.specs.Opened.{is_opened}
use Rattle.sv_policy.specs.Uncovered.{differ}
use Rattle.sv_findings.proofs.opened.exceptions.Given as goal

abbrev pub invariant-loop-name : goal.invariant-loop-name
invariant-loop-name l = l.names.items ≡ filter (λ method. differ (is_opened (map (λ member. member.now) l.members) l.pattern method) l.are_others) (map (λ name. name.now) (take l.name-index l.name-items))
