use Rattle.std.proofs.Common.{ℕ, List, ap, codes, map, sym, ◌||◌, ◌∙◌}
use Rattle.std.specs.Borrow.{Bor}
use Rattle.std.specs.Str.{bytes_eq}
use Rattle.sv_constraints.specs.Covering.{lists}
use Rattle.sv_policy.proofs.Listed.{any_seen}
use Rattle.sv_audit.proofs.tables.match_every_path.Goals as goal

pub returns-then-is_among : goal.returns-then-is_among
returns-then-is_among c =
    c.if-is_among.true
    ∙ ap (λ b. b || lists (map (λ (pattern : Bor (List ℕ)). pattern.now) c.args.patterns.now) (codes "/*"))
    (sym (any_seen (λ pattern. bytes_eq pattern (codes "/")) (λ (pattern : Bor (List ℕ)). pattern.now) c.args.patterns.now ∙ sym c.is_among.ensures ∙ c.if-is_among.true))

pub returns-else-is_among : goal.returns-else-is_among
returns-else-is_among c =
    c.is_among-else-is_among.ensures
    ∙ sym (any_seen (λ pattern. bytes_eq pattern (codes "/*")) (λ (pattern : Bor (List ℕ)). pattern.now) c.args.patterns.now)
    ∙ ap (λ b. b || lists (map (λ (pattern : Bor (List ℕ)). pattern.now) c.args.patterns.now) (codes "/*"))
    (sym (any_seen (λ pattern. bytes_eq pattern (codes "/")) (λ (pattern : Bor (List ℕ)). pattern.now) c.args.patterns.now ∙ sym c.is_among.ensures ∙ c.if-is_among.false))
