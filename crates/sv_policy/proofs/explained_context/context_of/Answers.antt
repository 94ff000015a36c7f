use Rattle.std.proofs.Common.{Some, None, sym, ◌∙◌, ap}
use Rattle.std.specs.Option.{option_map}
use Rattle.sv_policy.proofs.Contexts.{found_by_place, got, serves_by_place}
use Rattle.sv_policy.specs.Context.{policy}
use Rattle.sv_policy.proofs.explained_context.context_of.Goals as goal

pub returns-in-Some-clause-chosen : goal.returns-in-Some-clause-chosen
returns-in-Some-clause-chosen g c =
    let path_of = g.C.HasContextPath.path_of in
    let standing_of = g.C.HasPolicy.standing_of in
    let users_of = g.C.HasPolicy.users_of in
    ap (option_map (λ context. policy (path_of context) (standing_of context) (users_of context)))
    (got c.args.contexts.now c.in-Some.place c.get.result c.in-Some.ensures.bound c.get.ensures.lookup.0 c.get.ensures.lookup.1)
    ∙ found_by_place path_of standing_of users_of c.args.contexts.now c.args.path.now (Some c.in-Some.place)
    (sym c.in-Some.is ∙ c.context_place.ensures.chosen)

pub returns-in-Some-clause-above : goal.returns-in-Some-clause-above
returns-in-Some-clause-above g c =
    serves_by_place g.C.HasContextPath.path_of g.C.HasPolicy.standing_of g.C.HasPolicy.users_of c.args.contexts.now c.args.path.now
    c.in-Some.place c.get.result
    (got c.args.contexts.now c.in-Some.place c.get.result c.in-Some.ensures.bound c.get.ensures.lookup.0 c.get.ensures.lookup.1) c.in-Some.ensures.above

pub returns-in-None-clause-chosen : goal.returns-in-None-clause-chosen
returns-in-None-clause-chosen g c =
    found_by_place g.C.HasContextPath.path_of g.C.HasPolicy.standing_of g.C.HasPolicy.users_of c.args.contexts.now c.args.path.now None
    (sym c.in-None.is ∙ c.context_place.ensures.chosen)
