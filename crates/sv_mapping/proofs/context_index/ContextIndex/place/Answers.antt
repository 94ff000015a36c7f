use Rattle.std.proofs.Common.{length, ltb, not, ap, ◌∙◌, ◌&&◌}
use Rattle.std.specs.List.{list_any, position}
use Rattle.sv_mapping.proofs.ContextIndexChoice.{place_passes}
use Rattle.sv_mapping.specs.Chosen.{is_chosen}
use Rattle.sv_mapping.specs.Pattern.{is_at_or_below}
use Rattle.sv_mapping.proofs.context_index.ContextIndex.place.Goals as goal

pub returns-clause-above : goal.returns-clause-above
returns-clause-above c =
    let paths = c.args.self.now in
    let path = c.args.path.now in
    place_passes (λ context. is_at_or_below context path)
    (λ context. not (list_any (λ other. is_at_or_below other path && ltb (length context) (length other)) paths))
    paths c.chosen.result (c.chosen.ensures _ c.self.invariant ∙ ap (λ ps. position (is_chosen ps path) ps) c.self.view_is)
