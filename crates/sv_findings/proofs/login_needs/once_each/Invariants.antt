use Rattle.std.proofs.Common.{◌≡◌, map, take}
use Rattle.sv_policy.specs.Patterns.{different}
use Rattle.sv_findings.proofs.login_needs.once_each.Given as goal

abbrev pub invariant-loop-text : goal.invariant-loop-text
invariant-loop-text l = map (λ text. text.now) l.kept.items ≡ different (take l.text-index l.texts)
