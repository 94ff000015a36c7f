use Rattle.std.proofs.Common.{◌≡◌, IfOk, ap, map, subst, sym}
use Rattle.sv_policy.specs.Compiled.{AreCompiled, Standing}
use Rattle.sv_policy.specs.Gaps.{gaps}
use Rattle.sv_policy.proofs.policy.Policy.uncovered.Goals as goal

pub returns : goal.returns
returns c =
    subst (λ constraints. IfOk c.gaps_of.result (λ found. found.items ≡ gaps constraints)) (ap (λ (standing : Standing). standing.constraints) c.self.view_is)
    (c.gaps_of.ensures c.self.inside.rules c.self.inside.constraints.items
    (subst (λ tables. AreCompiled c.self.inside.rules c.self.inside.constraints.items (map (λ table. table.value) tables)) (sym c.as_slice.ensures.value) c.self.invariant.0))
