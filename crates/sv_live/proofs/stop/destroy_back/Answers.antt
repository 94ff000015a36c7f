use Rattle.std.proofs.Common.{map, reverse, take, sym, ◌∙◌, subst}
use Rattle.sv_component.specs.Runs.{Runs}
use Rattle.sv_component.specs.Steps.{steps_of}
use Rattle.sv_component.proofs.Growing.{grows_more}
use Rattle.sv_live.specs.Calls.{destroyed}
use Rattle.sv_live.specs.World.{world}
use Rattle.sv_live.proofs.Places.{back_more}
use Rattle.sv_live.proofs.stop.destroy_back.Goals as goal

pub loop-done-preserved : goal.loop-done-preserved
loop-done-preserved g c =
    let start = world c.args.context.now c.args.parts.now c.args.journal.now in
    let before = world c.args.context.now c.loop-done.parts c.loop-done.journal in
    let after = world c.args.context.now c.destroy.new.self c.destroy.new.journal in
    record {
      counts = record {
        servlets = c.destroy.ensures.counts.servlets ∙ c.loop-done.invariant.counts.servlets;
        filters = c.destroy.ensures.counts.filters ∙ c.loop-done.invariant.counts.filters;
        listeners = c.destroy.ensures.counts.listeners ∙ c.loop-done.invariant.counts.listeners;
      };
      made = subst (λ records. Runs (steps_of g.S.Servlet.servlet_step g.F.Filter.filter_step g.L.Listener.listener_step) start records after)
          (sym (back_more c.args.places.now c.loop-done.done _ c.loop-done-test.true))
          (grows_more (steps_of g.S.Servlet.servlet_step g.F.Filter.filter_step g.L.Listener.listener_step) start before after
          (take c.loop-done.done (map destroyed (reverse c.args.places.now))) _ c.loop-done.invariant.made c.destroy.ensures.moves);
    }
