use Rattle.std.proofs.Common.{◌≡◌, ◌++◌, take}
use Rattle.std.specs.List.{flat_map}
use Rattle.std.specs.String.{string_bytes}
use Rattle.sv_audit_command.specs.KeyWords.{other_role}
use Rattle.sv_audit_command.proofs.key_words.push_others.Given as goal

abbrev pub invariant-loop-role : goal.invariant-loop-role
invariant-loop-role l = string_bytes l.key ≡ string_bytes l.fn.key ++ flat_map other_role (take l.role-index l.roles)
