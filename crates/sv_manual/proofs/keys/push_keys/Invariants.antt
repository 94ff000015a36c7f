use Rattle.std.proofs.Common.{◌≡◌, ◌++◌, map, string_bytes, take}
use Rattle.sv_manual.specs.Keys.{keys_text}
use Rattle.sv_program.specs.Keys.{row_fields}
use Rattle.sv_manual.proofs.keys.push_keys.Given as goal

-- the keys so far are added
abbrev pub invariant-loop-row : goal.invariant-loop-row
invariant-loop-row l = string_bytes l.text ≡ string_bytes l.fn.text ++ keys_text l.form (map (row_fields (λ text. text.now)) (take l.row-index l.rows)) l.format
