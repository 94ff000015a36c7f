use Rattle.std.proofs.Common.{◌≡◌, take}
use Rattle.std.specs.Prelude.{filter}
use Rattle.std.specs.Str.{bytes_eq}
use Rattle.sv_audit.proofs.focus.equal_patterns.Given as goal

abbrev pub invariant-loop-pattern : goal.invariant-loop-pattern
invariant-loop-pattern l = l.copies.items ≡ filter (λ pattern. bytes_eq pattern l.text) (take l.pattern-index l.patterns)
