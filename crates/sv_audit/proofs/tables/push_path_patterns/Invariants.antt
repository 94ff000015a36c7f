use Rattle.std.proofs.Common.{◌≡◌, ◌++◌, map, take, not}
use Rattle.std.specs.Prelude.{filter}
use Rattle.sv_mapping.specs.Pattern.{is_extension_pattern}
use Rattle.sv_audit.proofs.tables.push_path_patterns.Given as goal

abbrev pub invariant-loop-pattern : goal.invariant-loop-pattern
invariant-loop-pattern l = map (λ pattern. pattern.now) l.ordered.items ≡ map (λ pattern. pattern.now) l.initial.ordered.items ++ filter (λ pattern. not (is_extension_pattern pattern)) (map (λ pattern. pattern.now) (take l.pattern-index l.patterns))
