use Rattle.sv_audited_contexts.proofs.LineLemmas.{lines_more}
use Rattle.sv_audited_contexts.proofs.descriptor_lines.lines_of.Goals as goal

pub loop-document-preserved : goal.loop-document-preserved
loop-document-preserved c =
    lines_more c.args.element c.args.documents.now c.loop-document.document-index _ c.elements_of.result c.loop-document.lines.items c.push_lines.new.lines.items
    c.loop-document-test.true c.elements_of.ensures c.in_ok-push_lines.ensures c.loop-document.invariant
