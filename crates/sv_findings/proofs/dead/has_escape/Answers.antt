use Rattle.std.proofs.Common.{eqb, rules, tests}
use Rattle.std.proofs.lemmas.Iterator.Adapters.{YieldsList-from_skip}
use Rattle.std.proofs.lemmas.Iterator.Consumers.{YieldsList-at}
use Rattle.std.proofs.lemmas.Iterator.Search.{any_from_yields_List}
use Rattle.std.proofs.lemmas.Iterator.Splits.{YieldsList-from_slice_split}
use Rattle.sv_uri.specs.Segment.{begins_with_digits}
use Rattle.sv_findings.proofs.dead.has_escape.Goals as goal

pub returns : goal.returns
returns c =
    any_from_yields_List begins_with_digits _ _ _ c.any.ensures.ran
    (YieldsList-from_skip 1 (YieldsList-at c.skip.ensures.source (YieldsList-from_slice_split _ (λ b. eqb b 37) c.args.bytes.now c.split.ensures.rest c.split.ensures.done c.split.ensures.closure (λ x b q k. search (rules, tests)))) c.skip.ensures.count)
    (λ x b q k. search (rules, tests))
