-- Paths that are canonical as they were written: nothing in them is decoded, cut off, dropped or refused. RFC 3986,
-- sections 3.3 and 5.2.4.
use Rattle.std.specs.Prelude.{ℕ, ◌+◌, ◌≡◌, Bool, false, not, ◌&&◌, ◌||◌, ◌==◌, nat_le, List, [], ◌∷◌, Option, Some, None, Ok, if◌then◌else◌}
use Rattle.std.specs.List.{list_any}
use Rattle.std.specs.Option.{option_map}
use Rattle.std.specs.Str.{byte}
use Rattle.sv_uri.specs.Target.{visible_query}
use Rattle.sv_uri.specs.Canonical.{canonical}

-- An ASCII byte that is neither a control nor a backslash, and begins no escape, parameter, query or fragment.
abbrev pub means_itself : ℕ → Bool
means_itself b = nat_le 32 b && nat_le b 126 && not (b == byte "%" || b == byte ";" || b == byte "\\" || b == byte "?" || b == byte "#")

-- The byte means itself and, after a slash, is neither a slash nor a dot.
abbrev pub may_follow : ℕ → ℕ → Bool
may_follow before b = means_itself b && not (before == byte "/" && (b == byte "/" || b == byte "."))

-- The number of bytes before the first that may not follow the one before it.
abbrev pub plain_len : ℕ → List ℕ → ℕ
plain_len before [] = 0
plain_len before (b ∷ rest) = if may_follow before b then plain_len b rest + 1 else 0

-- A query after its `?`, or nothing.
abbrev pub marked : Option (List ℕ) → List ℕ
marked None = []
marked (Some query) = byte "?" ∷ query

-- The text is this query after its `?`, or is empty, and has no fragment.
abbrev pub IsQueryAlone : List ℕ → Option (List ℕ) → Type 0
IsQueryAlone text query = (text ≡ marked query) × (list_any (λ b. b == byte "#") text ≡ false)

-- The canonical form of the target has this path, and this query with its invisible bytes escaped.
abbrev pub HasParts : List ℕ → List ℕ → Option (List ℕ) → Type 0
HasParts target path query = canonical target ≡ Ok (record { path = path; query = option_map visible_query query })
