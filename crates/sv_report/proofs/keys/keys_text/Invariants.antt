use Rattle.std.proofs.Common.{◌≡◌, take}
use Rattle.std.specs.String.{string_bytes}
use Rattle.sv_report.specs.Keys.{keys_text}
use Rattle.sv_report.proofs.keys.keys_text.Given as goal

abbrev pub invariant-loop-context : goal.invariant-loop-context
invariant-loop-context l = string_bytes l.text ≡ keys_text (take l.context-index l.contexts)
