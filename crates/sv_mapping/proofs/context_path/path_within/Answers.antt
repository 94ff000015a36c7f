use Rattle.std.proofs.lemmas.Bool.{both_ways}
use Rattle.sv_mapping.proofs.ContextPathTexts.{below_none}
use Rattle.sv_mapping.proofs.context_path.path_within.Goals as goal

pub unreachable-requires : goal.unreachable-requires
unreachable-requires c = both_ways _ (below_none c.args.context.now c.args.path.now c.in-None.ensures.cases) c.requires
