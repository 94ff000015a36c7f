use Rattle.std.proofs.Common.{length, sym, ◌∙◌, subst}
use Rattle.std.proofs.lemmas.List.{with_items_is}
use Rattle.sv_component.specs.Runs.{Runs}
use Rattle.sv_component.specs.Steps.{steps_of}
use Rattle.sv_listeners.specs.Telling.{Tells, told}
use Rattle.sv_listeners.proofs.Tellings.{told_in_world}
use Rattle.sv_live.specs.World.{world}
use Rattle.sv_live.proofs.live.Parts.tell.Goals as goal

pub returns-clause-made : goal.returns-clause-made
returns-clause-made g c =
    let before = world c.args.context.now c.args.self.now c.args.journal.now in
    let tells = subst (λ all. Tells g.L.Listener.listener_step c.args.context.now c.args.event.now all c.args.journal.now c.tell.new.listeners c.tell.new.journal) c.as_mut_slice.ensures.value c.tell.ensures in
    let count = c.tell.auto.listeners ∙ c.as_mut_slice.ensures.len in
    subst (λ all. Runs (steps_of g.S.Servlet.servlet_step g.F.Filter.filter_step g.L.Listener.listener_step) before (told c.args.event.now (length c.args.self.now.listeners.items))
    (record before { listeners = all; journal = c.tell.new.journal }))
    (sym (with_items_is c.args.self.now.listeners c.tell.new.listeners count))
    (told_in_world (steps_of g.S.Servlet.servlet_step g.F.Filter.filter_step g.L.Listener.listener_step) before c.args.event.now c.tell.new.listeners c.tell.new.journal tells)
