use Rattle.std.proofs.Common.{◌∙◌, sym}
use Rattle.sv_text.specs.declared.front.Cut.TheVariants.{Whole}
use Rattle.sv_wire.proofs.LineLemmas.{no_head_in_front, whole}
use Rattle.sv_wire.proofs.ReadsLemmas.{cut_holds}
use Rattle.sv_wire.proofs.cut.cut_head.Goals as goal

pub head_len-requires : goal.head_len-requires
head_len-requires c = no_head_in_front c.args.stream.now c.front_of.result.now c.front_of.ensures c.args.from c.requires

pub returns-in-Some-clause-holds : goal.returns-in-Some-clause-holds
returns-in-Some-clause-holds c =
    cut_holds c.args.stream.now (Whole c.in-Some.len)
    (whole c.args.stream.now c.front_of.result.now c.front_of.ensures c.in-Some.len (sym c.in-Some.is ∙ c.head_len.ensures))
