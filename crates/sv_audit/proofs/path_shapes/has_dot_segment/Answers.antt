use Rattle.std.proofs.Common.{eqb, rules, tests}
use Rattle.std.proofs.lemmas.Iterator.Search.{any_from_yields_List}
use Rattle.std.proofs.lemmas.Iterator.Splits.{YieldsList-from_slice_split}
use Rattle.sv_uri.specs.Shape.{is_dot_segment}
use Rattle.sv_audit.proofs.path_shapes.has_dot_segment.Goals as goal

pub returns : goal.returns
returns c =
    any_from_yields_List (λ piece. is_dot_segment piece) _ _ _ c.any.ensures.ran
    (YieldsList-from_slice_split _ (λ b. eqb b 47) c.args.text.now c.split.ensures.rest c.split.ensures.done c.split.ensures.closure (λ x b q k. search (rules, tests)))
    (λ x b q k. search (rules, tests))
