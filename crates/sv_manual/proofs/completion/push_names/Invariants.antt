use Rattle.std.proofs.Common.{◌≡◌, ◌++◌, map, string_bytes, take}
use Rattle.sv_manual.specs.Completion.{names_text}
use Rattle.sv_manual.specs.Rows.{command_fields}
use Rattle.sv_manual.proofs.completion.push_names.Given as goal

-- the names so far are added
abbrev pub invariant-loop-command : goal.invariant-loop-command
invariant-loop-command l = string_bytes l.text ≡ string_bytes l.fn.text ++ names_text (map (command_fields (λ text. text.now)) (take l.command-index l.commands))
