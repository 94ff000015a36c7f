-- The paths of a request or of a dispatch (Jakarta Servlet 6.0, section 3.5). They are the context path with the path,
-- the canonical path in the context, the part that the servlet's pattern matches, the rest after it, and the query.
use Rattle.std.specs.Prelude.{ℕ, List, ◌++◌, Option}

pub record Paths : Type 0 where
  pub uri : List ℕ
  pub path : List ℕ
  pub servlet_path : Option (List ℕ)
  pub path_info : Option (List ℕ)
  pub query : Option (List ℕ)

-- The paths for a path in a context.
abbrev pub paths_at : List ℕ → List ℕ → Option (List ℕ) → Option (List ℕ) → Option (List ℕ) → Paths
paths_at context_path path servlet_path path_info query = record {
  uri = context_path ++ path;
  path = path;
  servlet_path = servlet_path;
  path_info = path_info;
  query = query;
}
