use Rattle.std.proofs.Common.{◌≡◌, ◌++◌, take}
use Rattle.std.specs.String.{string_bytes}
use Rattle.sv_report.specs.Words.{others_text}
use Rattle.sv_report.proofs.words.push_others.Given as goal

abbrev pub invariant-loop-other : goal.invariant-loop-other
invariant-loop-other l = string_bytes l.text ≡ string_bytes l.fn.text ++ others_text (take l.other-index l.others)
