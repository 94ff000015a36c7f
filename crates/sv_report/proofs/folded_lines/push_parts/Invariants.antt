use Rattle.std.proofs.Common.{◌≡◌, ◌++◌, ◌<◌, length}
use Rattle.std.specs.String.{string_bytes}
use Rattle.sv_report.specs.Folded.{line_parts, parts, parts_text}
use Rattle.sv_report.proofs.folded_lines.push_parts.Given as goal

abbrev pub invariant-loop-limit : goal.invariant-loop-limit
invariant-loop-limit l =
    (0 < l.limit) × (string_bytes l.text ++ parts_text (parts (length l.rest) l.limit l.rest) ≡ string_bytes l.fn.text ++ parts_text (line_parts l.line))

abbrev pub decreases-loop-limit : goal.decreases-loop-limit
decreases-loop-limit l = length l.rest
