use Rattle.std.proofs.Common.{sym}
use Rattle.sv_program.proofs.Trees.{items-as_array}
use Rattle.sv_audited_contexts.proofs.descriptor_lines.items_of.Goals as goal

pub returns-in-Some : goal.returns-in-Some
returns-in-Some c = rw c.as_slice.ensures.value (sym (items-as_array _ _ c.in-Some.ensures))
