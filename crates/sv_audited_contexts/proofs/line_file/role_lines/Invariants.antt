use Rattle.std.proofs.Common.{◌≡◌, map, take}
use Rattle.sv_audited_contexts.specs.LineFile.{role_lines}
use Rattle.sv_audited_contexts.proofs.line_file.role_lines.Given as goal

abbrev pub invariant-loop-line : goal.invariant-loop-line
invariant-loop-line l = l.numbers.items ≡ role_lines (map (λ line. line.now) (take l.line-index l.lines))
