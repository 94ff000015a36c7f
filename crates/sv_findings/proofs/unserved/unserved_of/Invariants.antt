use Rattle.std.proofs.Common.{◌≡◌, map, take}
use Rattle.std.specs.Prelude.{filter}
use Rattle.sv_policy.specs.Patterns.{different}
use Rattle.sv_findings.specs.Unserved.{is_unserved}
use Rattle.sv_findings.proofs.unserved.unserved_of.Given as goal

abbrev pub invariant-loop-pattern : goal.invariant-loop-pattern
invariant-loop-pattern l = map (λ pattern. pattern.now) l.kept.items ≡ different (filter (is_unserved l.site.reaches.now.0 l.site.reaches.now.1 l.site.listed l.site.servlets.now (map (λ file. file.now) l.site.files.now)) (map (λ pattern. pattern.now) (take l.pattern-index l.patterns)))
