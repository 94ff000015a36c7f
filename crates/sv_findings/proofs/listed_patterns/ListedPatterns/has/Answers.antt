use Rattle.std.proofs.Common.{ℕ, List, ap, map, sym, ◌∙◌}
use Rattle.std.specs.Borrow.{Bor}
use Rattle.std.specs.Str.{bytes_eq}
use Rattle.sv_constraints.specs.Covering.{lists}
use Rattle.sv_policy.proofs.Listed.{any_seen}
use Rattle.sv_findings.proofs.listed_patterns.ListedPatterns.has.Goals as goal

pub returns : goal.returns
returns c =
    c.is_among.ensures
    ∙ sym (any_seen (λ pattern. bytes_eq pattern c.args.text.now) (λ (pattern : Bor (List ℕ)). pattern.now) c.as_slice.result.now)
    ∙ ap (λ patterns. lists (map (λ (pattern : Bor (List ℕ)). pattern.now) patterns) c.args.text.now) c.as_slice.ensures.value
    ∙ ap (λ texts. lists texts c.args.text.now) c.self.view_is
