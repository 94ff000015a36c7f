-- Paths that requests have in a context on both servers (Jakarta Servlet 6.0, sections 3.5, 10.5 and 12.1).
use Rattle.std.specs.Prelude.{ℕ, Bool, not, ◌&&◌, List, [], ◌∷◌, ◌++◌, filter, map}
use Rattle.sv_mapping.specs.Pattern.{is_at_or_below}
use Rattle.sv_mapping.specs.Protected.{is_protected}
use Rattle.sv_mapping.specs.Within.{path_within}
use Rattle.sv_audit.specs.Examples.{is_read_back}
use Rattle.sv_audit.specs.Representatives.{representatives_beside}
use Rattle.sv_findings.specs.Reach.{serves}

-- The context paths at or below this one, within it.
abbrev pub taken_by : List (List ℕ) → List ℕ → List (List ℕ)
taken_by contexts its_path = map (path_within its_path) (filter (is_at_or_below its_path) contexts)

-- What may follow the context path in the path of a request: a representative of the paths for these patterns, or nothing.
abbrev pub possible_paths : List (List ℕ) → List (List ℕ) → List ℕ → List (List ℕ) → List (List ℕ)
possible_paths befores afters its_path patterns = representatives_beside (taken_by befores its_path ++ taken_by afters its_path) patterns ++ [] ∷ []

-- Whether the context path and this text are the path of a request, which both servers give to the context, and which is
-- for no hidden folder.
abbrev pub is_shown : List (List ℕ) → List (List ℕ) → List ℕ → List ℕ → Bool
is_shown befores afters its_path path = is_read_back (its_path ++ path) && serves befores its_path (its_path ++ path) && serves afters its_path (its_path ++ path) && not (is_protected path)

-- Given the context paths of both servers, one of these, and the patterns of both contexts with this path.
abbrev pub shown_paths : List (List ℕ) → List (List ℕ) → List ℕ → List (List ℕ) → List (List ℕ)
shown_paths befores afters its_path patterns = filter (is_shown befores afters its_path) (possible_paths befores afters its_path patterns)
