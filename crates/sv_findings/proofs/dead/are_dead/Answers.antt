use Rattle.std.proofs.Common.{ℕ, List, sym, ◌∙◌}
use Rattle.std.proofs.lemmas.List.Folds.{list_all-map}
use Rattle.std.specs.Borrow.{Bor}
use Rattle.sv_findings.specs.Dead.{decides_nothing}
use Rattle.sv_findings.proofs.dead.are_dead.Goals as goal

pub returns : goal.returns
returns c = c.decide_nothing.ensures ∙ sym (list_all-map (decides_nothing c.args.listed.now) (λ (pattern : Bor (List ℕ)). pattern.now) c.args.patterns.now)
