use Rattle.std.proofs.Common.{◌≡◌, take}
use Rattle.std.specs.String.{string_bytes}
use Rattle.sv.specs.Replies.{gaps_text}
use Rattle.sv.proofs.gaps.uncovered_of.Given as goal

abbrev pub invariant-loop-context : goal.invariant-loop-context
invariant-loop-context g l = string_bytes l.lines ≡ gaps_text (take l.context-index l.contexts)
