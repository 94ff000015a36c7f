use Rattle.std.proofs.Common.{◌≡◌, map, string_bytes, take}
use Rattle.sv_manual.specs.Manual.{named_usage}
use Rattle.sv_manual.specs.Rows.{command_fields}
use Rattle.sv_manual.proofs.manual.named_usage.Given as goal

-- the usages of this name so far are added
abbrev pub invariant-loop-command : goal.invariant-loop-command
invariant-loop-command l = string_bytes l.text ≡ named_usage l.name (map (command_fields (λ text. text.now)) (take l.command-index l.commands))
