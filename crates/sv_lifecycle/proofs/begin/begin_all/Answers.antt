use Rattle.std.proofs.Common.{◌≡◌, ◌+◌, ◌<◌, true, length, drop, get_or, refl, sym, ◌∙◌, ap, subst, arith}
use Rattle.std.proofs.lemmas.List.{get_or-map, length-replicate}
use Rattle.sv_component.specs.Runs.{Moves}
use Rattle.sv_live.specs.Calls.{init_record}
use Rattle.sv_lifecycle.specs.Calls.{config_at, is_ready, lets_go_on}
use Rattle.sv_live.specs.World.{IsPlaceIn, world}
use Rattle.sv_lifecycle.proofs.Beginning.{SoFar, begins_to_end, begins_to_stop, so_far_more, so_far_none}
use Rattle.sv_live.proofs.Places.{place_kept}
use Rattle.sv_lifecycle.proofs.Places.{all_serve, few_kept, length_answered, length_kept, not_both, rest_kept, same_in_rest, standing_there}
use Rattle.sv_component.specs.declared.standing.Standing.TheVariants as standings
use Rattle.sv_component.specs.Steps.{steps_of}
use Rattle.sv_lifecycle.proofs.begin.begin_all.Goals as goal

pub loop-step-init : goal.loop-step-init
loop-step-init g c = record {
  counts = record { servlets = refl; filters = refl; listeners = refl };
  few = omega arith;
  long = refl;
  rest = refl;
  rooms = refl;
  configs = refl;
  context = refl;
  so_far = λ app same. so_far_none (steps_of g.S.Servlet.servlet_step g.F.Filter.filter_step g.L.Listener.listener_step) app c.args.parts.now c.args.plan.now c.args.journal.now
      (all_serve (length c.args.parts.now.servlets.items) c.args.plan.now.standings.items c.requires.standings);
}

pub returns-then-not-whole-clause-begins : goal.returns-then-not-whole-clause-begins
returns-then-not-whole-clause-begins g c = λ app same.
    begins_to_end (steps_of g.S.Servlet.servlet_step g.F.Filter.filter_step g.L.Listener.listener_step) app c.args.parts.now c.args.plan.now c.args.journal.now
    c.loop-step.step c.loop-step.initialised c.loop-step.parts c.loop-step.plan c.loop-step.journal (c.loop-step.invariant.so_far app same)
    (λ is_whole. not_both c.loop-step.journal.whole is_whole (sym c.whole.ensures ∙ c.if-not-whole.true)) c.loop-step.invariant.rooms c.loop-step.invariant.context

pub init-answer-requires : goal.init-answer-requires
init-answer-requires g c =
    let place = c.index-place.result.now in
    let within : c.loop-step.step < length c.args.plan.now.order.items = omega (arith, c.loop-step-test.true, c.len-step-end.ensures, c.args.plan.now.order.ok.0) in
    let is : place ≡ get_or c.args.plan.now.order.items c.loop-step.step place = c.index-place.ensures ∙ same_in_rest c.loop-step.plan.order.items c.args.plan.now.order.items c.loop-step.step place c.loop-step.invariant.rest in
    place_kept c.args.parts.now c.loop-step.parts c.loop-step.invariant.counts place
    (subst (IsPlaceIn c.args.parts.now) (sym is) (c.requires.there c.loop-step.step place within))

pub returns-then-not-lets_go_on-clause-begins : goal.returns-then-not-lets_go_on-clause-begins
returns-then-not-lets_go_on-clause-begins g c = λ app same.
    let place = c.index-place.result.now in
    let config = c.index.result.now in
    let order = c.args.plan.now.order.items in
    let within : c.loop-step.step < length order = omega (arith, c.loop-step-test.true, c.len-step-end.ensures, c.args.plan.now.order.ok.0) in
    let is : place ≡ get_or order c.loop-step.step place = c.index-place.ensures ∙ same_in_rest c.loop-step.plan.order.items order c.loop-step.step place c.loop-step.invariant.rest in
    let is_config : config ≡ config_at app place =
    c.index.ensures ∙ ap (λ configs. get_or configs.items c.loop-step.step config) c.loop-step.invariant.configs ∙ ap (λ all. get_or all c.loop-step.step config) same
    ∙ get_or-map (config_at app) order c.loop-step.step place config within ∙ ap (config_at app) (sym is) in
    let moves = subst (λ context. Moves (steps_of g.S.Servlet.servlet_step g.F.Filter.filter_step g.L.Listener.listener_step) (world context c.loop-step.parts c.loop-step.journal)
    (init_record place config c.init-answer.result) (world context c.init-answer.new.self c.init-answer.new.journal)) (c.as_str.ensures ∙ c.loop-step.invariant.context) c.init-answer.ensures.moves in
    begins_to_stop (steps_of g.S.Servlet.servlet_step g.F.Filter.filter_step g.L.Listener.listener_step) app c.args.parts.now c.args.plan.now c.args.journal.now
    c.loop-step.step c.loop-step.initialised c.loop-step.parts c.loop-step.plan c.loop-step.journal place config c.init-answer.result c.init-answer.new.self c.init-answer.new.journal
    (c.loop-step.invariant.so_far app same) within is is_config moves (sym c.lets_go_on.ensures ∙ c.if-not-lets_go_on.true) c.loop-step.invariant.rooms c.loop-step.invariant.context

pub loop-step-preserved : goal.loop-step-preserved
loop-step-preserved g c =
    let place = c.index-place.result.now in
    let config = c.index.result.now in
    let answer = c.init-answer.result in
    let order = c.args.plan.now.order.items in
    let invariant = c.loop-step.invariant in
    let within : c.loop-step.step < length order = omega (arith, c.loop-step-test.true, c.len-step-end.ensures, c.args.plan.now.order.ok.0) in
    let is : place ≡ get_or order c.loop-step.step place = c.index-place.ensures ∙ same_in_rest c.loop-step.plan.order.items order c.loop-step.step place invariant.rest in
    let there : IsPlaceIn c.args.parts.now place = subst (IsPlaceIn c.args.parts.now) (sym is) (c.requires.there c.loop-step.step place within) in
    let rooms : length c.loop-step.plan.standings.items ≡ length c.args.parts.now.servlets.items =
    invariant.rooms ∙ ap length c.requires.standings ∙ length-replicate (length c.args.parts.now.servlets.items) standings.Serving in
    let goes : lets_go_on place answer ≡ true = sym c.lets_go_on.ensures ∙ c.if-not-lets_go_on.false in
    record {
      counts = record {
        servlets = c.init-answer.ensures.counts.servlets ∙ invariant.counts.servlets;
        filters = c.init-answer.ensures.counts.filters ∙ invariant.counts.filters;
        listeners = c.init-answer.ensures.counts.listeners ∙ invariant.counts.listeners;
      };
      few = omega (arith, c.keep-initialised.ensures.count, few_kept (is_ready answer) c.loop-step.initialised c.loop-step.step invariant.few);
      long = ap length c.keep-initialised.ensures.order ∙ length_kept (is_ready answer) c.loop-step.plan.order.items c.loop-step.initialised place ∙ invariant.long;
      rest = ap (λ xs. drop (c.loop-step.step + 1) xs) c.keep-initialised.ensures.order
          ∙ rest_kept (is_ready answer) c.loop-step.plan.order.items order c.loop-step.initialised c.loop-step.step place invariant.few invariant.rest;
      rooms = ap length c.keep-initialised.ensures.standings ∙ length_answered c.loop-step.plan.standings.items place answer ∙ invariant.rooms;
      configs = c.keep-initialised.ensures.configs ∙ invariant.configs;
      context = c.keep-initialised.ensures.context ∙ invariant.context;
      so_far = λ app same.
          let is_config : config ≡ config_at app place =
          c.index.ensures ∙ ap (λ configs. get_or configs.items c.loop-step.step config) invariant.configs ∙ ap (λ all. get_or all c.loop-step.step config) same
          ∙ get_or-map (config_at app) order c.loop-step.step place config within ∙ ap (config_at app) (sym is) in
          let moves = subst (λ context. Moves (steps_of g.S.Servlet.servlet_step g.F.Filter.filter_step g.L.Listener.listener_step) (world context c.loop-step.parts c.loop-step.journal)
          (init_record place config answer) (world context c.init-answer.new.self c.init-answer.new.journal)) (c.as_str.ensures ∙ invariant.context) c.init-answer.ensures.moves in
          let room : c.loop-step.initialised < length c.loop-step.plan.order.items = omega (arith, invariant.few, within, invariant.long) in
          subst (λ count. SoFar (steps_of g.S.Servlet.servlet_step g.F.Filter.filter_step g.L.Listener.listener_step) app c.args.parts.now c.args.plan.now c.args.journal.now
          (c.loop-step.step + 1) count c.init-answer.new.self c.keep-initialised.new.self c.init-answer.new.journal) (sym c.keep-initialised.ensures.count)
          (so_far_more (steps_of g.S.Servlet.servlet_step g.F.Filter.filter_step g.L.Listener.listener_step) app c.args.parts.now c.args.plan.now c.args.journal.now
          c.loop-step.step c.loop-step.initialised c.loop-step.parts c.loop-step.plan c.loop-step.journal place config answer c.init-answer.new.self c.keep-initialised.new.self c.init-answer.new.journal
          (invariant.so_far app same) within is is_config moves goes room c.keep-initialised.ensures.order c.keep-initialised.ensures.standings
          (standing_there c.args.parts.now (length c.loop-step.plan.standings.items) rooms place there));
    }

pub returns-clause-begins : goal.returns-clause-begins
returns-clause-begins g c = λ app same.
    begins_to_end (steps_of g.S.Servlet.servlet_step g.F.Filter.filter_step g.L.Listener.listener_step) app c.args.parts.now c.args.plan.now c.args.journal.now
    c.loop-step.step c.loop-step.initialised c.loop-step.parts c.loop-step.plan c.loop-step.journal (c.loop-step.invariant.so_far app same)
    (λ _. omega (arith, c.loop-step-test.false, c.len-step-end.ensures, c.args.plan.now.order.ok.0)) c.loop-step.invariant.rooms c.loop-step.invariant.context
