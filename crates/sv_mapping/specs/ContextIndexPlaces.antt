-- The results of lookups of context paths.
use Rattle.std.specs.Prelude.{◌≡◌, ℕ, ◌<◌, List, length, Option, None, position}
use Rattle.std.specs.HashMap.{get_by_text}
use Rattle.std.specs.Str.{bytes_eq}
use Rattle.sv_mapping.specs.declared.context_places.Places.{Places}

-- The first place of this path.
abbrev pub place_of : List (List ℕ) → List ℕ → Option ℕ
place_of paths path = position (λ other. bytes_eq other path) paths

-- Each path has its first place, and no path is longer than `longest`.
pub record ArePlaces (index : Places) (paths : List (List ℕ)) : Type 0 where
  pub places : (path : List ℕ) → get_by_text index.places path ≡ place_of paths path
  pub longest : (path : List ℕ) → index.longest < length path → place_of paths path ≡ None
