-- The order in which patterns are tried for a path: an exact pattern, the longest prefix, an extension, the default
-- pattern (Jakarta Servlet 6.0, section 12.1).
use Rattle.std.specs.Prelude.{◌≡◌, ℕ, nat_eq, List, [], ◌∷◌, ◌++◌, map, codes, if◌then◌else◌, find, not, IsTrue}
use Rattle.std.specs.List.{ends_with, list_all, list_any, starts_with}
use Rattle.std.specs.Option.{option_to_list}
use Rattle.std.specs.Str.{bytes_eq}
use Rattle.sv_mapping.specs.BestMatch.{best_pattern}
use Rattle.sv_mapping.specs.Pattern.{extension, is_pattern, is_slash}

-- The path and its fronts that end before a slash, the longest first.
abbrev pub fronts : List ℕ → List (List ℕ)
fronts [] = [] ∷ []
fronts (b ∷ bs) = map (λ front. b ∷ front) (fronts bs) ++ (if is_slash b then [] ∷ [] else [])

-- The exact pattern for a path: `""` for `/`, and none for a path that is itself a prefix pattern.
abbrev pub exact_texts : List ℕ → List (List ℕ)
exact_texts path = if bytes_eq path (codes "/") then [] ∷ [] else if ends_with nat_eq path (codes "/*") then [] else path ∷ []

abbrev pub prefix_texts : List ℕ → List (List ℕ)
prefix_texts path = map (λ front. front ++ codes "/*") (fronts path)

abbrev pub extension_texts : List ℕ → List (List ℕ)
extension_texts path = map (λ found. codes "*." ++ found) (option_to_list (extension path))

-- All patterns that match the path, in the order in which they are tried.
abbrev pub tried_texts : List ℕ → List (List ℕ)
tried_texts path = exact_texts path ++ (prefix_texts path ++ (extension_texts path ++ codes "/" ∷ []))

-- For a path that begins with a slash, the best match is the first text tried that is among the patterns.
abbrev pub BestIsFirstTried : Type 0
BestIsFirstTried = (patterns : List (List ℕ)) (path : List ℕ) → IsTrue (starts_with nat_eq path (codes "/")) → best_pattern patterns path ≡ find (λ text. list_any (λ pattern. bytes_eq pattern text) patterns) (tried_texts path)

-- All accepted patterns that match a path without a slash at its front, in the order in which they are tried.
abbrev pub other_texts : List ℕ → List (List ℕ)
other_texts path = (if bytes_eq path [] then codes "/*" ∷ [] else []) ++ (extension_texts path ++ codes "/" ∷ [])

-- For these paths, the best match is the first of these texts that is among the patterns.
abbrev pub BestOfOthers : Type 0
BestOfOthers = (patterns : List (List ℕ)) (path : List ℕ) → IsTrue (list_all is_pattern patterns) → IsTrue (not (starts_with nat_eq path (codes "/"))) → best_pattern patterns path ≡ find (λ text. list_any (λ pattern. bytes_eq pattern text) patterns) (other_texts path)
