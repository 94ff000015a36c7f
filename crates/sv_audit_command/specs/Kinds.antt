-- Words that list kinds of findings.
use Rattle.std.specs.Prelude.{◌≡◌, ℕ, Bool, true, ◌&&◌, ◌||◌, ◌==◌, List, codes}
use Rattle.std.specs.List.{list_all, list_any, slice_split}
use Rattle.std.specs.Str.{byte, bytes_eq}

abbrev pub is_comma : ℕ → Bool
is_comma b = b == byte ","

-- Whether the text names what lets everyone in: an open method of a table, or an opened one of a comparison. In a list of
-- kinds both words mean both.
abbrev pub is_opening : List ℕ → Bool
is_opening part = bytes_eq part (codes "open") || bytes_eq part (codes "opened")

abbrev pub is_kind_of_access : List ℕ → Bool
is_kind_of_access part =
    is_opening part || bytes_eq part (codes "uncovered") || bytes_eq part (codes "read-otherwise") || bytes_eq part (codes "head-differs")
    || bytes_eq part (codes "login-needs")

abbrev pub is_kind_of_pattern : List ℕ → Bool
is_kind_of_pattern part =
    bytes_eq part (codes "dead") || bytes_eq part (codes "dead-pattern") || bytes_eq part (codes "overruled") || bytes_eq part (codes "unreached")
    || bytes_eq part (codes "unserved") || bytes_eq part (codes "escaped")

abbrev pub is_kind_of_role : List ℕ → Bool
is_kind_of_role part = bytes_eq part (codes "unknown-role") || bytes_eq part (codes "unheld-role") || bytes_eq part (codes "unused-role")

-- Whether the text names a kind of findings.
abbrev pub is_kind : List ℕ → Bool
is_kind part = is_kind_of_access part || is_kind_of_pattern part || is_kind_of_role part

abbrev pub are_all_kinds : List ℕ → Bool
are_all_kinds word = list_all is_kind (slice_split is_comma word)

-- Whether the word is `any`, or kinds joined by commas.
abbrev pub are_kinds : List ℕ → Bool
are_kinds word = bytes_eq word (codes "any") || are_all_kinds word

-- The word is `any`, or kinds joined by commas.
unfoldable pub AreKinds : List ℕ → Type 0
AreKinds word = are_kinds word ≡ true

-- Whether the word lists the kind between commas.
abbrev pub has_part : List ℕ → List ℕ → Bool
has_part word kind = list_any (λ part. bytes_eq part kind) (slice_split is_comma word)

-- Whether the kind lets everyone in, and the word lists such a kind.
abbrev pub lists_opening : List ℕ → List ℕ → Bool
lists_opening word kind = is_opening kind && list_any is_opening (slice_split is_comma word)

-- Whether the word is `any`, or lists the kind.
abbrev pub lists_kind : List ℕ → List ℕ → Bool
lists_kind word kind = bytes_eq word (codes "any") || has_part word kind || lists_opening word kind
