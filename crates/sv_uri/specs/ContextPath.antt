-- Context paths (Jakarta Servlet 6.0, section 3.5) as they are shown.
use Rattle.std.specs.Prelude.{ℕ, List, [], ◌∷◌, codes}

-- A context path is shown unchanged. The root context is shown as `/`.
abbrev pub shown_context : List ℕ → List ℕ
shown_context [] = codes "/"
shown_context (first ∷ rest) = first ∷ rest
