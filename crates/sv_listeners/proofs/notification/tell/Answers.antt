use Rattle.std.proofs.Common.{◌≡◌, length, arith, refl, sym, ◌∙◌, ap, subst, take}
use Rattle.sv_component.specs.Runs.{Runs}
use Rattle.sv_listeners.specs.Telling.{listeners_alone, told}
use Rattle.sv_component.proofs.Growing.{grows_more, grows_none}
use Rattle.sv_listeners.proofs.Tellings.{told_all, told_more}
use Rattle.sv_listeners.proofs.notification.tell.Goals as goal
use Rattle.sv_component.specs.Steps.{listening}

pub loop-told-init : goal.loop-told-init
loop-told-init g c = record {
  counts = refl;
  made = grows_none (listening g.L.Listener.listener_step) (listeners_alone c.args.context.now c.args.listeners.now c.args.journal.now);
}

pub loop-told-preserved : goal.loop-told-preserved
loop-told-preserved g c =
    let count = length c.args.listeners.now in
    let before = listeners_alone c.args.context.now c.loop-told.listeners c.loop-told.journal in
    let after = listeners_alone c.args.context.now c.hear.new.listeners c.hear.new.journal in
    let start = listeners_alone c.args.context.now c.args.listeners.now c.args.journal.now in
    record {
      counts = c.hear.ensures.count ∙ c.loop-told.invariant.counts;
      made = subst (λ records. Runs (listening g.L.Listener.listener_step) start records after)
          (sym (told_more c.args.event.now count c.loop-told.told c.hearing_place-place.result c.loop-told-test.true c.hearing_place-place.ensures))
          (grows_more (listening g.L.Listener.listener_step) start before after (take c.loop-told.told (told c.args.event.now count)) _ c.loop-told.invariant.made c.hear.ensures.moves);
    }

pub returns : goal.returns
returns g c =
    let count = length c.args.listeners.now in
    let all : c.loop-told.told ≡ count = omega (arith, c.loop-told-test.false, c.loop-told.auto.told-end) in
    let start = listeners_alone c.args.context.now c.args.listeners.now c.args.journal.now in
    let after = listeners_alone c.args.context.now c.loop-told.listeners c.loop-told.journal in
    subst (λ records. Runs (listening g.L.Listener.listener_step) start records after)
    (ap (λ n. take n (told c.args.event.now count)) all ∙ told_all c.args.event.now count) c.loop-told.invariant.made
