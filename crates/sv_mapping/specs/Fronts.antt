-- The fronts of a path that end before a slash (Jakarta Servlet 6.0, section 12.1).
use Rattle.std.specs.Prelude.{ℕ, Bool, false, List, Option, None, Some}
use Rattle.sv_mapping.specs.Pattern.{is_at_or_below}

-- The context path is this front or lies above it, if there is a front.
abbrev pub serves : List ℕ → Option (List ℕ) → Bool
serves context None = false
serves context (Some front) = is_at_or_below context front
