-- The best match among URL patterns (Jakarta Servlet 6.0, section 12.1).
use Rattle.std.specs.Prelude.{◌≡◌, ℕ, Bool, ◌||◌, ◌&&◌, not, nat_lt, ◌==◌, List, ◌++◌, length, Option, Some, is_some, IsTrue, Contains, filter, find, position}
use Rattle.std.specs.List.{list_any}
use Rattle.std.specs.Option.{option_and_then, option_to_list}
use Rattle.std.specs.Str.{bytes_eq}
use Rattle.sv_mapping.specs.Pattern.{Form, Root, Default, Extension, Prefix, Exact, form, matches}

-- The rank: 3 if exact, 2 and the length if a prefix, 1 if an extension, 0 if the default.
abbrev pub form_rank : Form → ℕ × ℕ
form_rank Root = (3, 0)
form_rank Default = (0, 0)
form_rank (Extension wanted) = (1, 0)
form_rank (Prefix prefix) = (2, length prefix)
form_rank (Exact text) = (3, 0)

abbrev pub rank : List ℕ → ℕ × ℕ
rank pattern = form_rank (form pattern)

-- The first number decides, then the second.
abbrev pub is_above : ℕ × ℕ → ℕ × ℕ → Bool
is_above a b = nat_lt b.0 a.0 || (a.0 == b.0 && nat_lt b.1 a.1)

-- The pattern is chosen before the other one if both match.
abbrev pub outranks : List ℕ → List ℕ → Bool
outranks pattern other = is_above (rank pattern) (rank other)

-- The pattern matches, and no pattern of the list that matches outranks it.
abbrev pub is_best : List (List ℕ) → List ℕ → List ℕ → Bool
is_best patterns path pattern = matches pattern path && not (list_any (λ other. matches other path && outranks other pattern) patterns)

-- The place of the best match, the least among equal texts.
abbrev pub best : List (List ℕ) → List ℕ → Option ℕ
best patterns path = position (is_best patterns path) patterns

-- The text of the best match.
abbrev pub best_pattern : List (List ℕ) → List ℕ → Option (List ℕ)
best_pattern patterns path = find (is_best patterns path) patterns

-- The first pattern that no other outranks.
abbrev pub highest : List (List ℕ) → Option (List ℕ)
highest patterns = find (λ pattern. not (list_any (λ other. outranks other pattern) patterns)) patterns

-- The best match among further patterns and one that was found before. This one counts as a match.
abbrev pub best_with : Option (List ℕ) → List (List ℕ) → List ℕ → Option (List ℕ)
best_with found patterns path = highest (option_to_list found ++ filter (λ pattern. matches pattern path) patterns)

-- There is a best match exactly if a pattern matches.
abbrev pub BestExists : Type 0
BestExists = (patterns : List (List ℕ)) (path : List ℕ) → is_some (best_pattern patterns path) ≡ list_any (λ pattern. matches pattern path) patterns

-- The best match is one of the patterns, and it matches.
abbrev pub BestIsAMatch : Type 0
BestIsAMatch = (patterns : List (List ℕ)) (path pattern : List ℕ) → best_pattern patterns path ≡ Some pattern → Contains patterns pattern × IsTrue (matches pattern path)

-- The best matches of a list have the same text.
abbrev pub BestIsUnique : Type 0
BestIsUnique = (patterns : List (List ℕ)) (path a b : List ℕ) → Contains patterns a → Contains patterns b → IsTrue (is_best patterns path a) → IsTrue (is_best patterns path b) → a ≡ b

-- The place of the best match is the least place of its text.
abbrev pub BestStandsFirst : Type 0
BestStandsFirst = (patterns : List (List ℕ)) (path : List ℕ) → best patterns path ≡ option_and_then (λ text. position (λ pattern. bytes_eq pattern text) patterns) (best_pattern patterns path)
