-- The parts of a request target: RFC 3986, sections 3.3 (path, segments, parameters) and 3.4 (query).
use Rattle.std.specs.Prelude.{ℕ, Bool, ◌==◌, ◌&&◌, nat_le, List, [], ◌∷◌, drop, Option, Some, None, if◌then◌else◌}
use Rattle.std.specs.List.{list_any, before_first, after_first, slice_split, flat_map}
use Rattle.std.specs.Str.{byte}
use Rattle.percent_encoding.specs.Percent.{percent_encode_byte}

-- The bytes before the first such byte, or all if there is none.
abbrev pub before : ℕ → List ℕ → List ℕ
before separator text = before_first (λ b. b == separator) text

-- The bytes after the first such byte, if there is one.
abbrev pub behind : ℕ → List ℕ → Option (List ℕ)
behind separator text =
    if list_any (λ b. b == separator) text then Some (after_first (λ b. b == separator) text) else None

-- The parts before, between and after the slashes.
abbrev pub between_slashes : List ℕ → List (List ℕ)
between_slashes text = slice_split (λ b. b == byte "/") text

-- The segments of a path: the bytes after each slash, up to the next.
abbrev pub segments_of : List ℕ → List (List ℕ)
segments_of path = drop 1 (between_slashes path)

-- The bytes of a query that are not escaped.
abbrev pub is_visible : ℕ → Bool
is_visible b = nat_le 33 b && nat_le b 126

-- The query with every other byte as an escape.
abbrev pub visible_query : List ℕ → List ℕ
visible_query query = flat_map (λ b. if is_visible b then b ∷ [] else percent_encode_byte b) query
