use Rattle.std.proofs.Common.{◌<◌, ◌∙◌, ◌&&◌, ap, IfSome, length, ltb, map, not, subst, sym}
use Rattle.std.specs.List.{list_any, position}
use Rattle.sv_mapping.proofs.ContextIndexChoice.{place_passes}
use Rattle.sv_mapping.specs.Chosen.{is_chosen}
use Rattle.sv_mapping.proofs.FirstBest.{position_within}
use Rattle.sv_mapping.specs.Pattern.{is_at_or_below}
use Rattle.sv_run.proofs.Places.{position_map}
use Rattle.sv_run.proofs.indexed_contexts.Indexed.place.Goals as goal

pub returns-clause-chosen : goal.returns-clause-chosen
returns-clause-chosen g c =
    let path_of = g.C.HasContextPath.path_of in
    let contexts = c.args.self.now in
    c.place.ensures.chosen
    ∙ ap (λ paths. position (is_chosen paths c.args.path.now) paths) (c.self.invariant ∙ ap (map path_of) c.self.view_is)
    ∙ position_map (is_chosen (map path_of contexts) c.args.path.now) path_of contexts

pub returns-clause-bound : goal.returns-clause-bound
returns-clause-bound g c =
    let path_of = g.C.HasContextPath.path_of in
    let contexts = c.args.self.now in
    subst (λ found. IfSome found (λ place. place < length contexts)) (sym (returns-clause-chosen g c))
    (position_within (λ context. is_chosen (map path_of contexts) c.args.path.now (path_of context)) contexts)

pub returns-clause-above : goal.returns-clause-above
returns-clause-above g c =
    let path_of = g.C.HasContextPath.path_of in
    let contexts = c.args.self.now in
    let path = c.args.path.now in
    place_passes (λ context. is_at_or_below (path_of context) path)
    (λ context. not (list_any (λ other. is_at_or_below other path && ltb (length (path_of context)) (length other)) (map path_of contexts)))
    contexts c.place.result (returns-clause-chosen g c)
