-- The segments of a path: the bytes after each of its slashes, up to the next (RFC 3986, section 3.3).
use Rattle.std.specs.Prelude.{ℕ, Bool, ◌||◌, nat_eq, if◌then◌else◌, List, [], ◌∷◌, codes, Option, Some, None, count_by}
use Rattle.std.specs.List.{slice_split, starts_with}
use Rattle.std.specs.Str.{bytes_eq}
use Rattle.sv_mapping.specs.Pattern.{is_slash}

-- The number of slashes, which is the number of segments of a path that begins with one.
abbrev pub segments : List ℕ → ℕ
segments path = count_by is_slash path

abbrev pub between_slashes : List ℕ → List (List ℕ)
between_slashes text = slice_split is_slash text

-- The segments of the text after a slash, or none without a slash.
abbrev pub rest_segments : Option (List ℕ) → List (List ℕ)
rest_segments None = []
rest_segments (Some text) = between_slashes text

-- The segments of a path that begins with a slash. Any other text has none.
abbrev pub segments_of : List ℕ → List (List ℕ)
segments_of [] = []
segments_of (b ∷ text) = if is_slash b then between_slashes text else []

abbrev pub is_slashed : List ℕ → Bool
is_slashed path = starts_with nat_eq path (codes "/")

-- The empty text, or one that begins with a slash.
abbrev pub is_rooted : List ℕ → Bool
is_rooted path = bytes_eq path [] || is_slashed path
