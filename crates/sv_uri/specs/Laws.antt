-- The laws of canonical paths: RFC 3986, section 5.2.4; Jakarta Servlet 6.0, section 3.5.2.
use Rattle.std.specs.Prelude.{ℕ, ◌<◌, ◌≡◌, ◌↔◌, Bool, ◌==◌, not, ◌||◌, List, take, Ok, None, count_by, IsTrue}
use Rattle.std.specs.List.{AllPass}
use Rattle.std.specs.Str.{byte}
use Rattle.sv_uri.specs.declared.path.Canon.{Canon}
use Rattle.sv_uri.specs.Segment.{is_parent}
use Rattle.sv_uri.specs.DotSegments.{climbs}
use Rattle.sv_uri.specs.Canonical.{canonical}

-- The first n segments have more `..` than other names.
abbrev pub HasMoreParents : List (List ℕ) → ℕ → Type 0
HasMoreParents names n = count_by (λ name. not (is_parent name)) (take n names) < count_by is_parent (take n names)

-- A path climbs exactly if some front of its segments has more `..` than other names.
abbrev pub ClimbsByFronts : Type 0
ClimbsByFronts = (names : List (List ℕ)) → IsTrue (climbs names) ↔ ((n : ℕ) × HasMoreParents names n)

-- The byte means the same in a target as in a path: it begins no escape, query, fragment or parameter.
abbrev pub is_literal : ℕ → Bool
is_literal b = not (b == byte "%" || b == byte "?" || b == byte "#" || b == byte ";")

-- A canonical path of such bytes, read as a target, is its own canonical path and has no query.
abbrev pub CanonicalIsItsOwn : Type 0
CanonicalIsItsOwn = (target : List ℕ) (canon : Canon) → canonical target ≡ Ok canon → AllPass is_literal canon.path
    → canonical canon.path ≡ Ok (record { path = canon.path; query = None })
