-- Jakarta Servlet 6.0, section 12.1: the context of a request has the longest context path that matches the start of its path.
use Rattle.std.specs.Prelude.{◌≡◌, ℕ, Bool, ◌&&◌, not, nat_lt, List, length, IsTrue, Contains}
use Rattle.std.specs.List.{list_any}
use Rattle.sv_mapping.specs.Pattern.{is_at_or_below}

-- The path is the context path or lies below it, and this holds for no longer context path of the list.
abbrev pub is_chosen : List (List ℕ) → List ℕ → List ℕ → Bool
is_chosen contexts path context =
    is_at_or_below context path && not (list_any (λ other. is_at_or_below other path && nat_lt (length context) (length other)) contexts)

-- The chosen context paths of a list are equal.
abbrev pub IsUnique : Type 0
IsUnique = (contexts : List (List ℕ)) (path a b : List ℕ) → Contains contexts a → Contains contexts b
    → IsTrue (is_chosen contexts path a) → IsTrue (is_chosen contexts path b) → a ≡ b

-- Some context path is chosen exactly if some context path is the path or lies above it.
abbrev pub IsFoundWhereServed : Type 0
IsFoundWhereServed = (contexts : List (List ℕ)) (path : List ℕ)
    → list_any (is_chosen contexts path) contexts ≡ list_any (λ context. is_at_or_below context path) contexts
