use Rattle.std.proofs.Common.{◌≡◌, take}
use Rattle.std.specs.String.{string_bytes}
use Rattle.sv.specs.Replies.{constraints_text}
use Rattle.sv.proofs.gaps.constraints_of.Given as goal

abbrev pub invariant-loop-context : goal.invariant-loop-context
invariant-loop-context g l = string_bytes l.lines ≡ constraints_text (take l.context-index l.contexts)
