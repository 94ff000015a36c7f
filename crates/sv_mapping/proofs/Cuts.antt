-- Cutting a text into segments.
use Rattle.std.proofs.Common.{◌≡◌, ℕ, ◌<◌, ◌≤◌, ◌+◌, false, cond, List, [], ◌∷◌, ◌++◌, eqb, length, refl, sym, ◌∙◌, ap, arith, Option, Some, None, inl, inr, Bor}
use Rattle.std.specs.List.{before_first, after_first, list_any, position_or_len}
use Rattle.std.specs.Option.{MatchOption, option_copied}
use Rattle.std.specs.Str.Pattern.{FindsTextPrefix, StripsPrefix}
use Rattle.std.proofs.lemmas.Bool.{cases_Bool, eqb-true, or_from, or_parts}
use Rattle.std.proofs.lemmas.List.Splits.{length-slice_split, slice_split_first}
use Rattle.std.proofs.lemmas.List.Sums.{count_by-le-length, sum_by-cons}
use Rattle.sv_mapping.specs.Pattern.{is_slash}
use Rattle.sv_mapping.specs.Segments.{between_slashes, rest_segments, segments, segments_of}

-- The rest after the first slash.
pub behind_first : (path : List ℕ) (o : Option (Bor (List ℕ))) → MatchOption o (FindsTextPrefix (47 ∷ []) path None) (λ x. StripsPrefix (FindsTextPrefix (47 ∷ [])) path x.now) → rest_segments (option_copied o) ≡ segments_of path
behind_first path (Some rest) h = let front : path ≡ 47 ∷ rest.now = h.1.1 ∙ ap (λ r. 47 ∷ r) (sym h.2) in rw front refl
behind_first [] None h = refl
behind_first (b ∷ bs) None h = elim (cases_Bool (eqb b 47)) [ inl e ↦ absurd (h bs (ap (λ c. c ∷ bs) (eqb-true b 47 e))) | inr e ↦ rw e refl ]

-- A text without slashes is one segment.
pub one_segment : (text : List ℕ) → list_any is_slash text ≡ false → between_slashes text ≡ text ∷ []
one_segment [] h = refl
one_segment (b ∷ bs) h = let parts = or_parts (eqb b 47) (list_any is_slash bs) h in rw (parts.0, one_segment bs parts.1) refl

-- A segment ends before a slash.
pub first_segment : (segment rest : List ℕ) → list_any is_slash segment ≡ false → between_slashes (segment ++ 47 ∷ rest) ≡ segment ∷ between_slashes rest
first_segment [] rest h = refl
first_segment (b ∷ bs) rest h = let parts = or_parts (eqb b 47) (list_any is_slash bs) h in rw (parts.0, first_segment bs rest parts.1) refl

none_before_end : (text : List ℕ) → position_or_len is_slash text ≡ length text → list_any is_slash text ≡ false
none_before_end [] h = refl
none_before_end (b ∷ bs) h = elim (cases_Bool (eqb b 47)) [ inl e ↦ let at : 0 ≡ length (b ∷ bs) = rw e at h in absurd (omega (arith, at)) | inr e ↦ let at : 1 + position_or_len is_slash bs ≡ length (b ∷ bs) = rw e at h in or_from _ _ e (none_before_end bs (omega (arith, at))) ]

pub uncut : (text : List ℕ) → position_or_len is_slash text ≡ length text → between_slashes text ≡ text ∷ []
uncut text h = one_segment text (none_before_end text h)

pub cut_at_first : (text segment rest : List ℕ) → position_or_len is_slash text < length text → segment ≡ before_first is_slash text → rest ≡ after_first is_slash text → between_slashes text ≡ segment ∷ between_slashes rest
cut_at_first text segment rest within front back = rw (front, back) (slice_split_first is_slash text 0 within)

-- There are at most as many segments as bytes, and exactly as many as slashes if the path begins with one.
pub segments_fit : (path : List ℕ) → length (segments_of path) ≤ length path
segments_fit [] = omega arith
segments_fit (b ∷ bs) = elim (cases_Bool (eqb b 47)) [ inl e ↦ rw e (omega (arith, length-slice_split is_slash bs, count_by-le-length is_slash bs)) | inr e ↦ rw e (omega arith) ]

pub segments_counted : (rest : List ℕ) → length (segments_of (47 ∷ rest)) ≡ segments (47 ∷ rest)
segments_counted rest = omega (arith, length-slice_split is_slash rest, sum_by-cons (λ b. cond (eqb b 47) 1 0) 47 rest)
