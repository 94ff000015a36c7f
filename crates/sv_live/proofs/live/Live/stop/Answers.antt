use Rattle.std.proofs.Common.{◌≡◌, rules, sym, ◌∙◌, subst}
use Rattle.std.specs.List.{All, filter}
use Rattle.std.proofs.lemmas.Fn.{filter_same}
use Rattle.std.proofs.lemmas.List.Elements.{All-filter}
use Rattle.sv_live.specs.Standing.{is_in_service}
use Rattle.sv_live.specs.World.{IsPlaceIn}
use Rattle.sv_live.proofs.Ending.{stops}
use Rattle.sv_live.proofs.live.Live.stop.Goals as goal
use Rattle.sv_component.specs.Steps.{steps_of}

pub end_all-requires : goal.end_all-requires
end_all-requires g c =
    let test = is_in_service c.self.inside.standings.items in
    let kept : c.as_slice.result.now ≡ filter test c.self.inside.initialised.items =
    c.as_slice.ensures.value ∙ filter_same _ test _ (λ x b f' k. search rules) _ _ c.retain.ensures.filtered in
    subst (All (IsPlaceIn c.self.inside.parts)) (sym kept) (All-filter test (IsPlaceIn c.self.inside.parts) c.self.inside.initialised.items c.self.invariant.initialised)

pub returns-clause-made : goal.returns-clause-made
returns-clause-made g c =
    let test = is_in_service c.self.inside.standings.items in
    let kept : c.as_slice.result.now ≡ filter test c.self.inside.initialised.items =
    c.as_slice.ensures.value ∙ filter_same _ test _ (λ x b f' k. search rules) _ _ c.retain.ensures.filtered in
    stops (steps_of g.S.Servlet.servlet_step g.F.Filter.filter_step g.L.Listener.listener_step) c.args.self _ c.as_str.result.now c.as_slice.result.now c.args.sessions.now.store.sessions c.args.journal.now c.end_all.new.parts c.end_all.new.journal
    c.self.view_is c.as_str.ensures kept c.end_all.ensures.made
