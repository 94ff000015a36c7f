use Rattle.std.proofs.Common.{arith, Some, None}
use Rattle.std.proofs.lemmas.Str.Pattern.{split_once_first}
use Rattle.sv_mapping.proofs.Cuts.{cut_at_first, uncut}
use Rattle.sv_mapping.proofs.segments.split_segment.Goals as goal

pub returns-in-Some : goal.returns-in-Some
returns-in-Some c =
    let first = split_once_first 47 c.args.text.now (Some (c.in-Some.segment, c.in-Some.rest)) c.in-Some.ensures.cases (omega arith) in
    cut_at_first c.args.text.now c.in-Some.segment.now c.in-Some.rest.now first.0 first.1 first.2

pub returns-in-None : goal.returns-in-None
returns-in-None c = uncut c.args.text.now (split_once_first 47 c.args.text.now None c.in-None.ensures.cases (omega arith))
