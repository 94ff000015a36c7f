use Rattle.std.proofs.Common.{◌≡◌, drop, map, string_bytes}
use Rattle.sv_control_words.proofs.control_request.are_on_one_line.Given as goal
use Rattle.sv_control_words.specs.ControlRequest.{are_on_one_line}

abbrev pub invariant-loop-word : goal.invariant-loop-word
invariant-loop-word l = are_on_one_line (map string_bytes (drop l.word-index l.words)) ≡ are_on_one_line (map string_bytes l.words)
