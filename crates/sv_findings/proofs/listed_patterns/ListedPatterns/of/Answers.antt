use Rattle.std.proofs.Common.{ℕ, List, ap, codes, map, sym, ◌∙◌}
use Rattle.std.specs.Borrow.{Bor}
use Rattle.std.specs.Str.{bytes_eq}
use Rattle.sv_constraints.specs.Covering.{lists}
use Rattle.sv_policy.proofs.Listed.{any_seen}
use Rattle.sv_findings.proofs.listed_patterns.ListedPatterns.of.Goals as goal

pub invariant_of-result : goal.invariant_of-result
invariant_of-result c =
    c.is_among-has_prefix.ensures
    ∙ sym (any_seen (λ pattern. bytes_eq pattern (codes "/*")) (λ (pattern : Bor (List ℕ)). pattern.now) c.as_slice.result.now)
    ∙ ap (λ patterns. lists (map (λ (pattern : Bor (List ℕ)). pattern.now) patterns) (codes "/*")) c.as_slice.ensures.value
