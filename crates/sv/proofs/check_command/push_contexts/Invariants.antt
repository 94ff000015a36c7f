use Rattle.std.proofs.Common.{◌≡◌, ◌++◌, flat_map, string_bytes, take}
use Rattle.sv.specs.CheckCommand.{context_line}
use Rattle.sv.proofs.check_command.push_contexts.Given as goal

-- the contexts so far are written
abbrev pub invariant-loop-context : goal.invariant-loop-context
invariant-loop-context l = string_bytes l.text ≡ string_bytes l.initial.text ++ flat_map context_line (take l.context-index l.contexts)
