use Rattle.std.proofs.Common.{◌≡◌, ◌++◌, map, string_bytes, take}
use Rattle.sv_manual.specs.Completion.{option_cases}
use Rattle.sv_manual.specs.Rows.{command_fields, option_fields}
use Rattle.sv_manual.proofs.completion.push_option_cases.Given as goal

-- the cases so far are added
abbrev pub invariant-loop-command : goal.invariant-loop-command
invariant-loop-command l = string_bytes l.text ≡ string_bytes l.fn.text ++ option_cases (map (command_fields (λ text. text.now)) (take l.command-index l.commands)) (map (option_fields (λ text. text.now)) l.options)
