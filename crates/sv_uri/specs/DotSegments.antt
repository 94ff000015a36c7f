-- The effect of dot segments on the names of a path: RFC 3986, section 5.2.4; Jakarta Servlet 6.0, section 3.5.2.
use Rattle.std.specs.Prelude.{ℕ, ◌+◌, ◌-◌, Bool, false, not, ◌||◌, nat_lt, List, [], ◌∷◌, Option, Some, None, if◌then◌else◌, filter}
use Rattle.std.specs.List.{last_or}
use Rattle.sv_uri.specs.Segment.{is_empty, is_same, is_parent}

-- The segment changes nothing: it is empty or `.`.
abbrev pub is_idle : List ℕ → Bool
is_idle name = is_empty name || is_same name

-- The segments that change something: names and `..`.
abbrev pub kept : List (List ℕ) → List (List ℕ)
kept names = filter (λ name. not (is_idle name)) names

-- The number of names before these segments that their `..` remove.
abbrev pub removed_in_front : List (List ℕ) → ℕ
removed_in_front [] = 0
removed_in_front (name ∷ rest) = if is_parent name then removed_in_front rest + 1 else removed_in_front rest - 1

-- Some `..` has no name before it to remove.
abbrev pub climbs : List (List ℕ) → Bool
climbs names = nat_lt 0 (removed_in_front names)

-- The names that no later `..` removes.
abbrev pub remaining : List (List ℕ) → List (List ℕ)
remaining [] = []
remaining (name ∷ rest) =
    if is_parent name || nat_lt 0 (removed_in_front rest) then remaining rest else name ∷ remaining rest

-- The segment, if it is the last, leaves the path open for a name: it is empty, `.` or `..`.
abbrev pub ends_open : Option (List ℕ) → Bool
ends_open None = false
ends_open (Some name) = is_idle name || is_parent name

-- The empty last segment, if the path is left open.
abbrev pub closing : List (List ℕ) → List (List ℕ)
closing names = if ends_open (last_or None names) then [] ∷ [] else []
