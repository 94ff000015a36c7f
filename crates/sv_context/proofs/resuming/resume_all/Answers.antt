use Rattle.std.proofs.Common.{◌≡◌, ◌++◌, [], List, drop, take, refl, sym, ap, ◌∙◌, subst, arith}
use Rattle.std.proofs.lemmas.List.{drop_all, take-append-drop}
use Rattle.sv_component.specs.Steps.{steps_of}
use Rattle.sv_context.proofs.Resumptions.{resumes_none}
use Rattle.sv_context.proofs.Succession.{none_left}
use Rattle.sv_context.specs.Resuming.{ResumesAll}
use Rattle.sv_context.specs.State.{ContextState}
use Rattle.sv_context.proofs.resuming.resume_all.Goals as goal

pub returns-in_default : goal.returns-in_default
returns-in_default g c =
    let moving = steps_of g.S.Servlet.servlet_step g.F.Filter.filter_step g.L.Listener.listener_step in
    let place = c.loop-place.place in
    let all = c.args.contexts.now in
    let none = none_left c.loop-place.waiting.items c.pop_front.new.self.items c.in_default.ensures.items c.in_default.ensures.rest in
    let whole : take place c.loop-place.contexts ++ drop place all ≡ c.loop-place.contexts =
    ap (λ rest. take place c.loop-place.contexts ++ rest) (sym c.loop-place.invariant.same) ∙ take-append-drop place c.loop-place.contexts in
    subst (λ contexts. ResumesAll moving c.args.resumptions.items all c.args.journal.now contexts c.loop-place.journal) whole
    (c.loop-place.invariant.so_far (drop place all) c.loop-place.journal (resumes_none moving c.loop-place.waiting.items (drop place all) c.loop-place.journal none))

pub returns : goal.returns
returns g c =
    let moving = steps_of g.S.Servlet.servlet_step g.F.Filter.filter_step g.L.Listener.listener_step in
    let place = c.loop-place.place in
    let all = c.args.contexts.now in
    let past : drop place all ≡ [] = drop_all place all (omega (arith, c.loop-place-test.false, c.loop-place.invariant.many, c.loop-place.auto.place-end)) in
    let whole : take place c.loop-place.contexts ++ [] ≡ c.loop-place.contexts =
    ap (λ rest. take place c.loop-place.contexts ++ rest) (sym (c.loop-place.invariant.same ∙ past)) ∙ take-append-drop place c.loop-place.contexts in
    subst (λ contexts. ResumesAll moving c.args.resumptions.items all c.args.journal.now contexts c.loop-place.journal) whole
    (c.loop-place.invariant.so_far [] c.loop-place.journal
    (subst (λ (rest : List (ContextState g.row.S.Denot g.row.F.Denot g.row.L.Denot)). ResumesAll moving c.loop-place.waiting.items rest c.loop-place.journal [] c.loop-place.journal)
    (sym past) (refl, refl)))
