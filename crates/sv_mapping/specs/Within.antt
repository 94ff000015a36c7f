-- Jakarta Servlet 6.0, section 3.5: the path within a context.
use Rattle.std.specs.Prelude.{ℕ, List, length, drop, codes, if◌then◌else◌}
use Rattle.std.specs.Str.{bytes_eq}

-- The rest after the context path, or `/` if it is empty.
abbrev pub path_within : List ℕ → List ℕ → List ℕ
path_within context path = if bytes_eq path context then codes "/" else drop (length context) path
