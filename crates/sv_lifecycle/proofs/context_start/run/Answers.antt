use Rattle.std.proofs.Common.{[], length, replicate, Ok, sym, ◌∙◌, ap, subst}
use Rattle.sv_component.specs.Runs.{Runs}
use Rattle.sv_session.specs.declared.event.Event.TheVariants.{ContextInitialized}
use Rattle.sv_listeners.specs.Telling.{told}
use Rattle.sv_session.specs.Store.{SessionsState}
use Rattle.sv_live.specs.Calls.{stop_calls}
use Rattle.sv_lifecycle.specs.Starting.{Starts, code_of}
use Rattle.sv_live.specs.World.{world}
use Rattle.sv_component.specs.declared.standing.Standing.TheVariants as standings
use Rattle.sv_component.specs.Steps.{steps_of}
use Rattle.sv_lifecycle.proofs.Attempts.{kept_there, none_from, not_none_from, plan_places, plan_standings, started, undone}
use Rattle.sv_live.proofs.Places.{all_kept, counts_join}
use Rattle.sv_lifecycle.proofs.context_start.run.Goals.{else-is_none-via-then-is_none+else-whole, else-is_none-via-else-is_none}
use Rattle.sv_lifecycle.proofs.context_start.run.Goals as goal

pub begin_all-begun-requires-clause-there : goal.begin_all-begun-requires-clause-there
begin_all-begun-requires-clause-there g c =
    all_kept c.args.parts c.tell.new.self c.tell.ensures.counts c.args.plan.order.items
    (plan_places c.args.plan.context c.requires.0 c.args.parts c.args.plan c.requires.1 c.requires.2)

pub begin_all-begun-requires-clause-standings : goal.begin_all-begun-requires-clause-standings
begin_all-begun-requires-clause-standings g c =
    c.requires.2.standings ∙ ap (λ n. replicate n standings.Serving) (sym (plan_standings c.args.plan.context c.requires.0 c.args.parts c.tell.new.self c.args.plan c.requires.1 c.requires.2 c.tell.ensures.counts))

pub new-requires : goal.new-requires
new-requires g c =
    let counts = counts_join c.args.parts c.tell.new.self c.begin_all-begun.new.parts c.tell.ensures.counts c.begin_all-begun.ensures.counts in
    let there = kept_there (steps_of g.S.Servlet.servlet_step g.F.Filter.filter_step g.L.Listener.listener_step) c.requires.0 c.args.parts c.tell.new.self c.args.plan c.tell.new.journal c.begin_all-begun.result
    c.begin_all-begun.new.parts c.begin_all-begun.new.plan c.begin_all-begun.new.journal c.truncate.new.self.items c.requires.1 c.requires.2 counts
    (c.begin_all-begun.ensures.begins c.requires.0 c.requires.2.configs) c.truncate.ensures.items in
    record { standings = there.1; initialised = there.0 }

pub returns-then-whole : goal.returns-then-whole
returns-then-whole g c = λ app fits is_plan.
    let tells = subst (λ context. Runs (steps_of g.S.Servlet.servlet_step g.F.Filter.filter_step g.L.Listener.listener_step) (world context c.args.parts c.args.journal.now)
    (told ContextInitialized (length c.args.parts.listeners.items)) (world context c.tell.new.self c.tell.new.journal)) c.as_str.ensures c.tell.ensures.made in
    subst (λ live. Starts (steps_of g.S.Servlet.servlet_step g.F.Filter.filter_step g.L.Listener.listener_step) c.args.plan.context app c.args.parts c.args.journal.now (Ok live) c.begin_all-begun.new.journal) (sym c.new.ensures)
    (started (steps_of g.S.Servlet.servlet_step g.F.Filter.filter_step g.L.Listener.listener_step) app c.args.parts c.tell.new.self c.args.plan c.args.journal.now c.tell.new.journal c.begin_all-begun.result
    c.begin_all-begun.new.parts c.begin_all-begun.new.plan c.begin_all-begun.new.journal c.truncate.new.self.items fits is_plan
    (counts_join c.args.parts c.tell.new.self c.begin_all-begun.new.parts c.tell.ensures.counts c.begin_all-begun.ensures.counts) tells (c.begin_all-begun.ensures.begins app is_plan.configs)
    (none_from c.begin_all-begun.result.stopper c.is_none.result c.is_none.ensures c.if-is_none.true) (sym c.whole.ensures ∙ c.if-whole.true) c.truncate.ensures.items)

pub end_all-requires : goal.end_all-requires
end_all-requires g c =
    let counts = counts_join c.args.parts c.tell.new.self c.begin_all-begun.new.parts c.tell.ensures.counts c.begin_all-begun.ensures.counts in
    (kept_there (steps_of g.S.Servlet.servlet_step g.F.Filter.filter_step g.L.Listener.listener_step) c.requires.0 c.args.parts c.tell.new.self c.args.plan c.tell.new.journal c.begin_all-begun.result
    c.begin_all-begun.new.parts c.begin_all-begun.new.plan c.begin_all-begun.new.journal c.as_slice.result.now c.requires.1 c.requires.2 counts
    (c.begin_all-begun.ensures.begins c.requires.0 c.requires.2.configs) (c.as_slice.ensures.value ∙ c.truncate.ensures.items)).0

pub returns : goal.returns
returns g c = λ app fits is_plan.
    let tells = subst (λ context. Runs (steps_of g.S.Servlet.servlet_step g.F.Filter.filter_step g.L.Listener.listener_step) (world context c.args.parts c.args.journal.now)
    (told ContextInitialized (length c.args.parts.listeners.items)) (world context c.tell.new.self c.tell.new.journal)) c.as_str.ensures c.tell.ensures.made in
    let begins = c.begin_all-begun.ensures.begins app is_plan.configs in
    let ends = subst (λ context. Runs (steps_of g.S.Servlet.servlet_step g.F.Filter.filter_step g.L.Listener.listener_step) (world context c.begin_all-begun.new.parts c.begin_all-begun.new.journal)
    (stop_calls (length c.begin_all-begun.new.parts.listeners.items) c.as_slice.result.now []) (world context c.end_all.new.parts c.end_all.new.journal))
    (c.as_str-2.ensures ∙ begins.context)
    (subst (λ (state : SessionsState). Runs (steps_of g.S.Servlet.servlet_step g.F.Filter.filter_step g.L.Listener.listener_step) (world c.as_str-2.result.now c.begin_all-begun.new.parts c.begin_all-begun.new.journal)
    (stop_calls (length c.begin_all-begun.new.parts.listeners.items) c.as_slice.result.now state.store.sessions) (world c.as_str-2.result.now c.end_all.new.parts c.end_all.new.journal))
    c.new-no_sessions.ensures c.end_all.ensures.made) in
    undone (steps_of g.S.Servlet.servlet_step g.F.Filter.filter_step g.L.Listener.listener_step) app c.args.parts c.tell.new.self c.args.plan c.args.journal.now c.tell.new.journal c.begin_all-begun.result
    c.begin_all-begun.new.parts c.begin_all-begun.new.plan c.begin_all-begun.new.journal c.as_slice.result.now c.end_all.new.parts c.end_all.new.journal c.code_of-code.result fits is_plan tells begins ends
    (c.begin_all-begun.ensures.counts.listeners ∙ c.tell.ensures.counts.listeners) (c.as_slice.ensures.value ∙ c.truncate.ensures.items)
    (λ none. elim c.else-is_none.branch [
      | else-is_none-via-then-is_none+else-whole w ↦ sym w.whole.ensures ∙ w.if-whole.false
      | else-is_none-via-else-is_none w ↦ not_none_from c.begin_all-begun.result.stopper c.is_none.result c.is_none.ensures w.if-is_none.false none
    ])
    (c.code_of-code.ensures ∙ ap (code_of c.begin_all-begun.result.stopper) c.whole-2.ensures)
