use Rattle.std.proofs.Common.{◌≡◌, ◌∷◌, drop, flat_map}
use denote.Shadow.{shadow}
use denote.Text.{Utf8}
use Rattle.sv_program.specs.Keys.{last_but_one, step_keys, table_key}
use Rattle.sv_program.proofs.taken.table_key.Given as goal

-- the last two keys so far, and those of the remaining steps
abbrev pub invariant-loop-step : goal.invariant-loop-step
invariant-loop-step l = (last_but_one (l.table ∷ l.last ∷ flat_map step_keys (drop l.step-index l.steps)) ≡ table_key l.steps) × shadow (Utf8 l.table) × shadow (Utf8 l.last)
