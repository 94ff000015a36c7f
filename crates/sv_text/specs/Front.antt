-- A text that ends at a mark, within a limit (RFC 9112, section 2.1). It is cut from the stream first, and then parsed.
use Rattle.std.specs.Prelude.{ℕ, suc, Bool, List, [], ◌∷◌, length, take, nat_lt, if◌then◌else◌, Option, None, Some, option_map}
use Rattle.sv_text.specs.declared.front.Cut.{Cut}
use Rattle.sv_text.specs.declared.front.Cut.TheVariants.{Whole, Endless, Unended}

-- The length of the shortest front of the text that passes the test.
abbrev pub shortest_front : (List ℕ → Bool) → List ℕ → Option ℕ
shortest_front test [] = if test [] then Some 0 else None
shortest_front test (b ∷ text) =
    if test [] then Some 0 else option_map suc (shortest_front (λ front. test (b ∷ front)) text)

-- The cut of a stream, from the length of its shortest front that ends within `limit` bytes, if there is one.
abbrev pub cut_at : ℕ → List ℕ → Option ℕ → Cut
cut_at limit text None = if nat_lt (length text) limit then Unended else Endless
cut_at limit text (Some len) = Whole len

-- The end of the first text of a stream; `ends` says whether bytes end as such a text does.
abbrev pub cut : (List ℕ → Bool) → ℕ → List ℕ → Cut
cut ends limit stream = cut_at limit stream (shortest_front ends (take limit stream))
