use Rattle.std.proofs.Common.{◌≡◌, ◌++◌, flat_map, take}
use Rattle.std.specs.String.{string_bytes}
use Rattle.sv_program.specs.Constraints as spec
use Rattle.sv_program.proofs.constraint_report.push_patterns.Given as goal

abbrev pub invariant-loop-pattern : goal.invariant-loop-pattern
invariant-loop-pattern l =
    string_bytes l.lines ≡ string_bytes l.fn.lines ++ flat_map (spec.pattern_line l.front l.end) (take l.pattern-index l.patterns)
