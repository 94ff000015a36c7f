use Rattle.std.proofs.Common.{sym, ◌∙◌}
use Rattle.sv_audited_contexts.proofs.LineLemmas.{line_of_all, line_to}
use Rattle.sv_audited_contexts.proofs.descriptor_lines.first_line_length.Goals as goal

pub returns-in-Some-clause-first : goal.returns-in-Some-clause-first
returns-in-Some-clause-first c = line_to c.args.text.now c.in-Some.at (sym c.in-Some.ensures)

pub returns-in-None-clause-first : goal.returns-in-None-clause-first
returns-in-None-clause-first c = line_of_all c.args.text.now c.requires (sym c.in-None.ensures)
