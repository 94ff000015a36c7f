use Rattle.std.proofs.Common.{◌≡◌, ◌++◌, take, vec_items}
use Rattle.sv_script.specs.Printed.{entry_lines}
use Rattle.sv_script.proofs.printed_texts.push_entries.Given as goal

abbrev pub invariant-loop-entry : goal.invariant-loop-entry
invariant-loop-entry l = vec_items l.text ≡ vec_items l.fn.text ++ entry_lines (take l.entry-index l.entries)
