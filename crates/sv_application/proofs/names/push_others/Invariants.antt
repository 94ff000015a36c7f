use Rattle.std.proofs.Common.{◌≡◌, ◌++◌, take}
use Rattle.std.specs.String.{string_bytes}
use Rattle.sv_application.specs.Names.{others_text}
use Rattle.sv_application.proofs.names.push_others.Given as goal

abbrev pub invariant-loop-role : goal.invariant-loop-role
invariant-loop-role l = string_bytes l.text ≡ string_bytes l.fn.text ++ others_text (take l.role-index l.roles)
