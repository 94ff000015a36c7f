-- The rows of an access table that requests meet (Jakarta Servlet 6.0, sections 10.5 and 12.1).
use Rattle.std.specs.Prelude.{ℕ, Bool, false, not, ◌&&◌, List, Option, if◌then◌else◌}
use Rattle.std.specs.Option.{option_map_or}
use Rattle.sv_audit.specs.declared.rows.Row.{Row}
use Rattle.sv_findings.specs.Dead.{decides_nothing}
use Rattle.sv_findings.specs.Reach.{is_reached, reach_of}
use Rattle.sv_findings.specs.declared.reach.Reach.{Reach}
use Rattle.sv_findings.specs.declared.reach.Reach.TheVariants.{Unmatched}

-- Whether some requests may reach the pattern and have it as their best match, given the patterns of all constraints.
abbrev pub is_met : List (List ℕ) → List ℕ → List (List ℕ) → List ℕ → Bool
is_met contexts context patterns pattern = not (decides_nothing patterns pattern) && is_reached contexts context pattern

-- Whether requests meet the pattern: they may reach it, and have it as their best match.
abbrev pub row_reach : List (List ℕ) → List ℕ → List (List ℕ) → List ℕ → Reach
row_reach contexts context patterns pattern = if decides_nothing patterns pattern then Unmatched else reach_of contexts context pattern

-- Whether there is a pattern, and some requests may meet it.
abbrev pub is_pattern_met : List (List ℕ) → List ℕ → List (List ℕ) → Option (List ℕ) → Bool
is_pattern_met contexts context patterns pattern = option_map_or (is_met contexts context patterns) pattern false

abbrev pub is_row_met : List (List ℕ) → List ℕ → List (List ℕ) → Row → Bool
is_row_met contexts context patterns row = is_pattern_met contexts context patterns row.pattern
