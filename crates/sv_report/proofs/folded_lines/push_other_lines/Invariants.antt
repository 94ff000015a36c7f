use Rattle.std.proofs.Common.{◌≡◌, ◌++◌, codes, map, take}
use Rattle.std.specs.String.{string_bytes}
use Rattle.std.specs.List.{flat_map}
use Rattle.sv_report.specs.Folded.{folded_line}
use Rattle.sv_report.proofs.folded_lines.push_other_lines.Given as goal

abbrev pub invariant-loop-other : goal.invariant-loop-other
invariant-loop-other l = string_bytes l.text ≡ string_bytes l.fn.text ++ flat_map (λ other. codes "\n" ++ folded_line other) (map (λ other. other.now) (take l.other-index l.others))
