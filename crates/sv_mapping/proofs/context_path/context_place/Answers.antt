use Rattle.std.proofs.Common.{◌∙◌}
use Rattle.sv_mapping.proofs.Choice.{place_by_longest, place_serves}
use Rattle.sv_mapping.proofs.context_path.context_place.Goals as goal

pub returns-clause-chosen : goal.returns-clause-chosen
returns-clause-chosen g c =
    c.first_as_long.ensures.place ∙ place_by_longest g.C.HasContextPath.path_of c.args.contexts.now c.args.path.now c.longest_path.result c.longest_path.ensures

pub returns-clause-above : goal.returns-clause-above
returns-clause-above g c =
    place_serves g.C.HasContextPath.path_of c.args.contexts.now c.args.path.now c.longest_path.result c.first_as_long.result c.first_as_long.ensures.place
