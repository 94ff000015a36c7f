use Rattle.std.proofs.Common.{◌∙◌}
use Rattle.sv_uri.proofs.SegmentLemmas.{is_ok-is_utf8}
use Rattle.sv_uri.proofs.segment.is_utf8.Goals as goal

pub returns : goal.returns
returns c = c.is_ok.ensures.value ∙ is_ok-is_utf8 _ _ c.from_utf8.result c.args.name.now c.from_utf8.ensures.cases
