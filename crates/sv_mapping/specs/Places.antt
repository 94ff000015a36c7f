-- The places of texts in a list of patterns.
use Rattle.std.specs.Prelude.{◌≡◌, ℕ, List, [], ◌∷◌, ◌++◌, codes, if◌then◌else◌, IsTrue, Option, None}
use Rattle.std.specs.List.{list_all, position}
use Rattle.std.specs.Option.{option_and_then, option_or}
use Rattle.std.specs.Str.{bytes_eq}
use Rattle.sv_mapping.specs.BestMatch.{best}
use Rattle.sv_mapping.specs.MatchOrder.{exact_texts, prefix_texts}
use Rattle.sv_mapping.specs.Pattern.{extension, is_pattern}
use Rattle.sv_mapping.specs.Segments.{is_rooted}

-- The least place of a pattern with this text.
abbrev pub place_of : List (List ℕ) → List ℕ → Option ℕ
place_of patterns text = position (λ pattern. bytes_eq pattern text) patterns

-- The place of the first of the texts that is among the patterns.
abbrev pub first_place : List (List ℕ) → List (List ℕ) → Option ℕ
first_place patterns [] = None
first_place patterns (text ∷ texts) = option_or (place_of patterns text) (first_place patterns texts)

-- The place of the pattern that matches only this path.
abbrev pub exact_place : List (List ℕ) → List ℕ → Option ℕ
exact_place patterns [] = None
exact_place patterns (b ∷ path) = first_place patterns (exact_texts (b ∷ path))

-- The place in the trie for a path: that of the exact pattern, or else that of the longest prefix.
abbrev pub in_trie : List (List ℕ) → List ℕ → Option ℕ
in_trie patterns path = if is_rooted path then option_or (exact_place patterns path) (first_place patterns (prefix_texts path)) else None

-- The place outside the trie: that of the extension, or else that of the default pattern.
abbrev pub beside_trie : List (List ℕ) → List ℕ → Option ℕ
beside_trie patterns path = option_or (option_and_then (λ wanted. place_of patterns (codes "*." ++ wanted)) (extension path)) (place_of patterns (codes "/"))

-- The place of the best match is the one in the trie for the path, or else the one outside.
abbrev pub BestIsLookedUp : Type 0
BestIsLookedUp = (patterns : List (List ℕ)) (path : List ℕ) → IsTrue (list_all is_pattern patterns) → best patterns path ≡ option_or (in_trie patterns path) (beside_trie patterns path)
