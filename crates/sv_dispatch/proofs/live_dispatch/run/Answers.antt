use Rattle.std.proofs.Common.{[], refl, ap}
use Rattle.sv_component.specs.Runs.{IsRun}
use Rattle.sv_dispatch.specs.Did.{seen}
use Rattle.sv_dispatch.proofs.LiveDeeds.{but_whole, still_whole}
use Rattle.sv_dispatch.proofs.live_dispatch.run.Goals as goal

pub returns-clause-made : goal.returns-clause-made
unfolding IsRun
returns-clause-made g c =
    let stays = but_whole (seen c.dispatch_by.result) _ _ c.dispatch_by.ensures.does.stays in
    record {
      made = c.dispatch_by.ensures.does.made;
      is_tree = c.dispatch_by.ensures.does.does_so;
      runs = c.dispatch_by.ensures.does.runs c.args.machine.now [] refl;
      servlets = ap (λ frame. frame.servlets) stays;
      filters = ap (λ frame. frame.filters) stays;
      listeners = ap (λ frame. frame.listeners) stays;
      context = ap (λ frame. frame.context) stays;
      initialised = ap (λ frame. frame.initialised) stays;
    }

pub returns-clause-live : goal.returns-clause-live
returns-clause-live g c = ap (λ frame. frame.live) (but_whole (seen c.dispatch_by.result) _ _ c.dispatch_by.ensures.does.stays)

pub returns-clause-exchange : goal.returns-clause-exchange
returns-clause-exchange g c = ap (λ frame. frame.exchange) (but_whole (seen c.dispatch_by.result) _ _ c.dispatch_by.ensures.does.stays)

pub returns-clause-journal : goal.returns-clause-journal
returns-clause-journal g c = ap (λ frame. frame.journal) (but_whole (seen c.dispatch_by.result) _ _ c.dispatch_by.ensures.does.stays)

pub returns-clause-whole : goal.returns-clause-whole
returns-clause-whole g c = still_whole c.dispatch_by.result _ _ c.dispatch_by.ensures.does.stays c.requires.whole
