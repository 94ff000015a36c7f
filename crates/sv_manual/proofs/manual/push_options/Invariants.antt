use Rattle.std.proofs.Common.{◌≡◌, ◌++◌, map, string_bytes, take}
use Rattle.sv_manual.specs.Manual.{shown_option}
use Rattle.sv_manual.specs.Rows.{option_fields, options_of}
use Rattle.sv_manual.proofs.manual.push_options.Given as goal

-- the options so far are added
abbrev pub invariant-loop-option : goal.invariant-loop-option
invariant-loop-option l = string_bytes l.text ≡ string_bytes l.fn.text ++ options_of (shown_option l.form) l.name (map (option_fields (λ text. text.now)) (take l.option-index l.options))
