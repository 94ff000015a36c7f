use Rattle.std.proofs.Common.{◌≡◌, drop, map, string_bytes}
use Rattle.std.specs.List.{find}
use Rattle.sv_control_words.proofs.control_arguments.first_with_blank.Given as goal
use Rattle.sv_control_words.specs.ControlArguments.{has_blank}

abbrev pub invariant-loop-word : goal.invariant-loop-word
invariant-loop-word l = find has_blank (map string_bytes (drop l.word-index l.words)) ≡ find has_blank (map string_bytes l.words)
