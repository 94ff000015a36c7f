use Rattle.std.proofs.Common.{arith, rules, tests}
use Rattle.std.proofs.lemmas.Iterator.Search.{any_from_yields_List}
use Rattle.std.proofs.lemmas.Iterator.Splits.{YieldsList-from_str_split}
use Rattle.sv_mapping.specs.Pattern.{has_extension}
use Rattle.sv_findings.proofs.unserved.has_segment_with.Goals as goal

pub returns : goal.returns
returns c =
    any_from_yields_List (λ segment. has_extension c.args.wanted.now segment) _ _ _ c.any.ensures.ran
    (YieldsList-from_str_split 47 c.args.path.now (omega arith) c.split.ensures.text c.split.ensures.has_more c.split.ensures.pattern)
    (λ x b q k. search (rules, tests))
