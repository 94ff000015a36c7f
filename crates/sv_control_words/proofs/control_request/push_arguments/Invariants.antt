use Rattle.std.proofs.Common.{◌≡◌, ◌++◌, map, string_bytes, take}
use Rattle.sv_control_words.proofs.control_request.push_arguments.Given as goal
use Rattle.sv_control_words.specs.ControlRequest.{arguments_text}

abbrev pub invariant-loop-argument : goal.invariant-loop-argument
invariant-loop-argument l =
    string_bytes l.line ≡ string_bytes l.fn.line ++ arguments_text (map string_bytes (take l.argument-index l.arguments))
