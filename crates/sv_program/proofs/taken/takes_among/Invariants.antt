use Rattle.std.proofs.Common.{◌≡◌, drop, map}
use Rattle.std.specs.List.{find}
use Rattle.sv_program.specs.Keys.{is_about, row_fields}
use Rattle.sv_program.proofs.taken.takes_among.Given as goal

-- the first row about the key is the first of the remaining ones
abbrev pub invariant-loop-row : goal.invariant-loop-row
invariant-loop-row l = find (is_about l.table l.key) (map (row_fields (λ text. text.now)) (drop l.row-index l.rows)) ≡ find (is_about l.table l.key) (map (row_fields (λ text. text.now)) l.rows)
