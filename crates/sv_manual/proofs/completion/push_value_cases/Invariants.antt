use Rattle.std.proofs.Common.{◌≡◌, ◌++◌, map, string_bytes, take}
use Rattle.sv_manual.specs.Completion.{value_cases}
use Rattle.sv_manual.specs.Rows.{option_fields}
use Rattle.sv_manual.proofs.completion.push_value_cases.Given as goal

-- the cases so far are added
abbrev pub invariant-loop-option : goal.invariant-loop-option
invariant-loop-option l = string_bytes l.text ≡ string_bytes l.fn.text ++ value_cases (map (option_fields (λ text. text.now)) (take l.option-index l.options))
