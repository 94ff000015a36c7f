use Rattle.std.proofs.Common.{None, Some, refl, sym, ◌∙◌}
use Rattle.std.specs.Option.{option_copied}
use Rattle.sv_findings.proofs.ReachLemmas.{path_at}
use Rattle.sv_findings.proofs.reach.chosen_path.Goals as goal

pub returns-in-Some : goal.returns-in-Some
returns-in-Some c = λ same. path_at c.args.index.now c.args.contexts.now c.args.path.now (Some c.in-Some.place) (option_copied c.text_at.result) same (sym c.in-Some.is ∙ c.place.ensures.chosen) c.text_at.ensures

pub returns-in-None : goal.returns-in-None
returns-in-None c = λ same. path_at c.args.index.now c.args.contexts.now c.args.path.now None None same (sym c.in-None.is ∙ c.place.ensures.chosen) refl
