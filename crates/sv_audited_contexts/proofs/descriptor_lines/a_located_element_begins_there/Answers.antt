use Rattle.sv_audited_contexts.proofs.LocatedLemmas.{lines_are_right}
use Rattle.sv_audited_contexts.proofs.descriptor_lines.a_located_element_begins_there.Goals as goal

pub returns : goal.returns
returns c = lines_are_right
