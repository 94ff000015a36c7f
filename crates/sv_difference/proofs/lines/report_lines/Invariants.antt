use Rattle.std.proofs.Common.{◌≡◌, map, take}
use Rattle.std.specs.Prelude.{string_bytes}
use Rattle.sv_difference.specs.DifferenceText.{all_lines}
use Rattle.sv_difference.proofs.lines.report_lines.Given as goal

abbrev pub invariant-loop-context : goal.invariant-loop-context
invariant-loop-context l = string_bytes l.text ≡ all_lines (map (λ context. context.now) (take l.context-index l.contexts))
