use Rattle.std.proofs.Common.{◌≡◌, ◌++◌, map, string_bytes, take}
use Rattle.sv_manual.specs.Completion.{word_text}
use Rattle.sv_manual.specs.Rows.{option_fields, options_of}
use Rattle.sv_manual.proofs.completion.push_words.Given as goal

-- the words so far are added
abbrev pub invariant-loop-option : goal.invariant-loop-option
invariant-loop-option l = string_bytes l.text ≡ string_bytes l.fn.text ++ options_of word_text l.name (map (option_fields (λ text. text.now)) (take l.option-index l.options))
