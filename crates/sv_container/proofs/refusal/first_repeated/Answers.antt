use Rattle.std.proofs.Common.{◌≡◌, Bool, true, false, not, List, ℕ, sym, ◌∙◌, refl, subst}
use Rattle.sv_container.proofs.Repeating.{repeated_at}
use Rattle.sv_container.specs.Paths.{IsRepeatedFirst}
use Rattle.sv_context.specs.Several.{paths_of}
use Rattle.sv_lifecycle.specs.declared.deployment.Deployment.{Deployment}
use Rattle.sv_descriptor.proofs.Differing.{distinct-more}
use Rattle.sv_container.proofs.refusal.first_repeated.Goals as goal

not-back : (a b c : Bool) → a ≡ c → a ≡ not b → b ≡ not c
not-back true true c e h = cc
not-back true false c e h = rw (sym e) refl
not-back false true c e h = rw (sym e) refl
not-back false false c e h = cc

abbrev path_of : {S F L : Type 0} → Deployment S F L → List ℕ
path_of deployment = deployment.path

pub returns-then-not-branch : goal.returns-then-not-branch
returns-then-not-branch g c =
    let known = not-back _ _ _ c.if-not-branch.true (rw c.as_str-path.ensures at c.in_ok-enter.ensures.new) in
    subst (IsRepeatedFirst (paths_of c.args.deployments.now)) (sym (c.in_ok-copy_of.ensures ∙ c.as_str-path.ensures))
    (repeated_at path_of c.args.deployments.now c.loop-deployment.names c.loop-deployment.deployment-index c.deployment-item.result
    c.loop-deployment-test.true c.deployment-item.is c.loop-deployment.invariant known)

pub loop-deployment-preserved : goal.loop-deployment-preserved
loop-deployment-preserved g c =
    let is_new = not-back _ _ _ c.if-not-branch.false (rw c.as_str-path.ensures at c.in_ok-enter.ensures.new) in
    distinct-more path_of c.args.deployments.now c.loop-deployment.names c.enter.new.self c.loop-deployment.deployment-index
    c.deployment-item.result c.loop-deployment-test.true c.deployment-item.is c.loop-deployment.invariant
    (rw c.as_str-path.ensures at c.in_ok-enter.ensures.entered) is_new
