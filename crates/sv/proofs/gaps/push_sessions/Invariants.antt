use Rattle.std.proofs.Common.{◌≡◌, ◌++◌, flat_map, take}
use Rattle.std.specs.String.{string_bytes}
use Rattle.sv.specs.Replies.{sessions_text}
use Rattle.sv.proofs.gaps.push_sessions.Given as goal

abbrev pub invariant-loop-context : goal.invariant-loop-context
invariant-loop-context g l = string_bytes l.text ≡ string_bytes l.fn.text ++ flat_map sessions_text (take l.context-index l.contexts)
