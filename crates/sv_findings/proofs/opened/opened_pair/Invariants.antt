use Rattle.std.proofs.Common.{◌≡◌, map, take, None, Some}
use Rattle.std.specs.Prelude.{fold}
use Rattle.sv_findings.specs.Opened.{lesser_pair, opened_for}
use Rattle.sv_findings.proofs.opened.opened_pair.Given as goal

abbrev pub invariant-loop-name : goal.invariant-loop-name
invariant-loop-name l = l.least ≡ fold (λ least method. lesser_pair least (opened_for (map (λ member. member.now) l.members) l.pattern (Some method))) None (map (λ name. name.now) (take l.name-index l.name-items))
