use Rattle.std.proofs.Common.{◌≡◌, ◌++◌, flat_map, map, string_bytes, take}
use Rattle.sv_manual.specs.Manual.{command_text}
use Rattle.sv_manual.specs.Rows.{command_fields, option_fields}
use Rattle.sv_manual.proofs.manual.push_commands.Given as goal

-- the commands so far are added
abbrev pub invariant-loop-command : goal.invariant-loop-command
invariant-loop-command l = string_bytes l.text ≡ string_bytes l.fn.text ++ flat_map (command_text l.form (map (option_fields (λ text. text.now)) l.options)) (map (command_fields (λ text. text.now)) (take l.command-index l.commands))
