use Rattle.std.proofs.Common.{[], ◌∷◌, Some, refl, ap, ◌∙◌}
use Rattle.sv_component.specs.Call.{Destroyed}
use Rattle.sv_component.specs.Runs.{OfServlet}
use Rattle.sv_component.specs.Steps.{steps_of}
use Rattle.sv_dispatch.specs.Did.{seen}
use Rattle.sv_live.specs.Standing.{live_world}
use Rattle.sv_dispatch.proofs.RunningDeeds.{at, framed, here_by_place, there_if, there_or_not, was_whole}
use Rattle.sv_dispatch.proofs.live_machine.RunningMachine.retire.Goals as goal

pub retire-requires-clause-not_gone : goal.retire-requires-clause-not_gone
retire-requires-clause-not_gone g c = here_by_place c.args.self.now.live.now.standings c.args.place c.requires.here

pub returns : goal.returns
returns g c =
    let m = c.args.self.now in
    let live = m.live.now in
    let made = OfServlet c.args.place Destroyed ∷ [] in
    let stands = c.retire.ensures.stands in
    record {
      made = made;
      does_so = (refl, ap (λ standings. at standings m.exchange.now) stands.standings, there_or_not c.retired.result);
      runs = λ from done so_far. c.retire.ensures.made (live_world from.live.now from.journal.now) done so_far;
      stays = framed m.live.ghost_name m.exchange.ghost_name m.journal.ghost_name live c.retire.new.self stands.context stands.counts stands.initialised
          m.journal.now.whole c.retire.new.journal.whole (Some tt) (seen c.retired.result)
          (was_whole (steps_of g.S.Servlet.servlet_step g.F.Filter.filter_step g.L.Listener.listener_step) (live_world live m.journal.now)
          (live_world c.retire.new.self c.retire.new.journal) made c.retire.ensures.made)
          (there_if c.retired.result c.retire.new.journal.whole (c.retired.ensures ∙ c.whole.ensures));
    }
