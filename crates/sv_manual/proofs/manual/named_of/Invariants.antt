use Rattle.std.proofs.Common.{◌≡◌, map, string_bytes, take}
use Rattle.sv_manual.specs.Manual.{named_text}
use Rattle.sv_manual.specs.Rows.{command_fields, option_fields}
use Rattle.sv_manual.proofs.manual.named_of.Given as goal

-- the commands of this name so far are added
abbrev pub invariant-loop-command : goal.invariant-loop-command
invariant-loop-command l =
    string_bytes l.text ≡ named_text l.form l.name (map (command_fields (λ text. text.now)) (take l.command-index l.commands)) (map (option_fields (λ text. text.now)) l.options)
