use Rattle.std.proofs.Common.{arith, sym}
use Rattle.sv_mapping.proofs.Texts.{after_last_none, after_split}
use Rattle.sv_files.proofs.content_type.last_segment.Goals as goal

pub returns-in-Some : goal.returns-in-Some
returns-in-Some c = sym (after_split 47 c.args.path.now _ c.in-Some.segment.now (omega arith) c.in-Some.ensures.cases)

pub returns-in-None : goal.returns-in-None
returns-in-None c = sym (after_last_none 47 c.args.path.now (omega arith) c.in-None.ensures.cases)
