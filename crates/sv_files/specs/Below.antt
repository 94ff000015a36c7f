-- The folders above a path.
use Rattle.std.specs.Prelude.{ℕ, Bool, false, ◌||◌, nat_eq, List, ◌++◌, codes, Option, None, Some, IsTrue}
use Rattle.std.specs.List.{starts_with}
use Rattle.std.specs.Str.{bytes_eq}

-- The path is below the folder: it begins with the folder and a slash.
abbrev pub lies_below : List ℕ → List ℕ → Bool
lies_below folder path = starts_with nat_eq path (folder ++ codes "/")

-- All folders above a known folder are known too.
abbrev pub IsClosed : (List ℕ → Bool) → Type 0
IsClosed known = (folder outer : List ℕ) → IsTrue (known folder) → IsTrue (lies_below outer folder) → IsTrue (known outer)

-- There is a folder, and the outer folder is equal to it or above it.
abbrev pub is_at_or_above : List ℕ → Option (List ℕ) → Bool
is_at_or_above outer None = false
is_at_or_above outer (Some folder) = bytes_eq folder outer || lies_below outer folder
