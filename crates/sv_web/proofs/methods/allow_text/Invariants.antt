use Rattle.std.proofs.Common.{◌≡◌, string_bytes, take}
use Rattle.std.specs.List.{flat_map}
use Rattle.sv_web.specs.Methods.{names_of}
use Rattle.sv_web.proofs.methods.allow_text.Given as goal

abbrev pub invariant-loop-verb : goal.invariant-loop-verb
invariant-loop-verb l = string_bytes l.text ≡ flat_map names_of (take l.verb-index l.allowed)
