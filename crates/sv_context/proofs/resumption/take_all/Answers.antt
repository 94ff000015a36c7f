use Rattle.std.proofs.Common.{◌≡◌, ◌+◌, ◌++◌, ◌∷◌, [], take, sym, ap, ◌∙◌, subst, arith}
use Rattle.std.proofs.lemmas.List.{take_more}
use Rattle.sv_context.proofs.Resumptions.{takes_next}
use Rattle.sv_context.specs.Resuming.{TakesAll}
use Rattle.sv_context.proofs.resumption.take_all.Goals as goal

pub loop-deployment-preserved : goal.loop-deployment-preserved
loop-deployment-preserved g c =
    let all = c.args.deployments.now in
    let place = c.loop-deployment.deployment-index in
    let item = c.deployment-item.result in
    let more : take (place + 1) all ≡ take place all ++ item ∷ [] =
    take_more all place item (omega (arith, c.loop-deployment-test.true, c.loop-deployment.auto.deployment-index-end)) ∙ ap (λ one. take place all ++ one ∷ []) (sym c.deployment-item.is) in
    subst (λ front. TakesAll front c.args.suspended.now.items c.push.new.self.items c.take.new.suspended.items) (sym more)
    (subst (λ taken. TakesAll (take place all ++ item ∷ []) c.args.suspended.now.items taken c.take.new.suspended.items) (sym c.in_ok-push.ensures.items)
    (takes_next (take place all) item c.args.suspended.now.items c.loop-deployment.suspended.items c.take.new.suspended.items c.loop-deployment.taken.items
    c.in_ok-take.field-0 c.loop-deployment.invariant c.in_ok-take.ensures.taken))
