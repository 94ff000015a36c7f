use Rattle.std.proofs.Common.{◌≡◌, ◌++◌, take, vec_items}
use Rattle.sv_listening.specs.Lines.{event_lines}
use Rattle.sv_listening.proofs.lines.push_lines.Given as goal

abbrev pub invariant-loop-entry : goal.invariant-loop-entry
invariant-loop-entry l = vec_items l.text ≡ vec_items l.fn.text ++ event_lines l.moment l.connection (take l.entry-index l.entries)
