-- Texts with only line ends after the end of a head.
use Rattle.std.proofs.Common.{◌≡◌, ℕ, zero, suc, ◌+◌, ◌-◌, ◌≤◌, ◌<◌, true, false, ◌||◌, ◌⊎◌, List, [], ◌∷◌, ◌++◌, length, take, drop, get_or, refl, sym, ap, ◌∙◌, subst, inl, inr, eqb, nat_eq, bytes_eq, arith, length-append}
use Rattle.std.specs.Prelude.{All}
use Rattle.std.specs.List.{ends_with}
use Rattle.std.specs.Cmp.Lexicographic.{same_text}
use Rattle.std.proofs.lemmas.Bool.{and_from, cases_lt, eq-eqb, false≢true, or_cases, or_left, or_right}
use Rattle.std.proofs.lemmas.List.{drop-drop, drop-take, drop_all, get_or-append-add, get_or-drop, get_or-take, get_or_append_left, length-drop, length-take-le, take-append-drop, take-append-le, take_all}
use Rattle.std.proofs.lemmas.List.Elements.{All-from_get_or, All-nil}
use Rattle.sv_wire.proofs.ListLemmas.{drop_behind, take_behind}
use Rattle.sv_connection.specs.Pieces.{begins_line, ends_empty_line, is_lone_return}
use Rattle.sv_listening.specs.Bound.{PiecesAreParts}
use Rattle.sv_listening.specs.Parts.{is_line_end}
use Rattle.sv_wire.specs.Head.{ends_head}

abbrev pub IsLineEnd : ℕ → Type 0
IsLineEnd byte = is_line_end byte ≡ true

-- Only line ends.
abbrev pub AreLineEnds : List ℕ → Type 0
AreLineEnds text = All IsLineEnd text

-- Only line ends follow the end of a head.
abbrev pub EndsInLineEnds : List ℕ → Type 0
EndsInLineEnds text = (n : ℕ) → ends_head (take n text) ≡ true → AreLineEnds (drop n text)

-- ---- Ends

ends_with_is : (text needle : List ℕ) → ends_with nat_eq text needle ≡ true → needle ≡ drop (length text - length needle) text
ends_with_is text needle ends = same_text needle (drop (length text - length needle) text) (sym ends)

ends_with_fits : (text needle : List ℕ) → ends_with nat_eq text needle ≡ true → length needle ≤ length text
ends_with_fits text needle ends =
    omega (arith, ap length (ends_with_is text needle ends), length-drop (length text - length needle) text)

-- A text that ends in some bytes also does so after more bytes.
ends_with_behind : (front text needle : List ℕ) → ends_with nat_eq text needle ≡ true → ends_with nat_eq (front ++ text) needle ≡ true
ends_with_behind front text needle ends =
    ap (λ t. bytes_eq needle t)
    (drop_behind front text (length (front ++ text) - length needle) (length text - length needle)
    (omega (arith, length-append front text, ends_with_fits text needle ends)))
    ∙ ends

ends_head_behind : (front text : List ℕ) → ends_head text ≡ true → ends_head (front ++ text) ≡ true
ends_head_behind front text ends = by_end (or_cases (ends_with nat_eq text (10 ∷ 10 ∷ [])) (ends_with nat_eq text (10 ∷ 13 ∷ 10 ∷ [])) ends)
  where
    by_end : (ends_with nat_eq text (10 ∷ 10 ∷ []) ≡ true) ⊎ (ends_with nat_eq text (10 ∷ 13 ∷ 10 ∷ []) ≡ true) → ends_head (front ++ text) ≡ true
    by_end (inl plain) = or_left (ends_with nat_eq (front ++ text) (10 ∷ 10 ∷ [])) _ (ends_with_behind front text (10 ∷ 10 ∷ []) plain)
    by_end (inr both) = or_right (ends_with nat_eq (front ++ text) (10 ∷ 10 ∷ [])) _ (ends_with_behind front text (10 ∷ 13 ∷ 10 ∷ []) both)

-- The same holds for the rest of the text after its first bytes.
pub ends_so_behind : (k : ℕ) (text : List ℕ) → EndsInLineEnds text → EndsInLineEnds (drop k text)
ends_so_behind k text ends n here =
    subst AreLineEnds (sym (drop-drop n k text))
    (ends (k + n) (ap ends_head (sym (take-append-drop k (take (k + n) text)))
    ∙ ends_head_behind (take k (take (k + n) text)) (drop k (take (k + n) text)) (ap ends_head (drop-take k n text) ∙ here)))

-- ---- The places of an end

-- The last bytes of the text are those of an empty line after the LF of a line; `last` is the place of the last one.
abbrev EndsThere : List ℕ → ℕ → Type 0
EndsThere text last =
    (get_or text last 0 ≡ 10)
    × (((1 ≤ last) × (get_or text (last - 1) 0 ≡ 10)) ⊎ ((2 ≤ last) × (get_or text (last - 1) 0 ≡ 13) × (get_or text (last - 2) 0 ≡ 10)))

place_of : (text needle : List ℕ) (k place : ℕ) → ends_with nat_eq text needle ≡ true → place ≡ length text - length needle + k
    → get_or text place 0 ≡ get_or needle k 0
place_of text needle k place ends at =
    ap (λ i. get_or text i 0) at ∙ sym (get_or-drop (length text - length needle) text k 0)
    ∙ ap (λ t. get_or t k 0) (sym (ends_with_is text needle ends))

ends_there : (text : List ℕ) (last : ℕ) → length text ≡ last + 1 → ends_head text ≡ true → EndsThere text last
ends_there text last long ends = by_end (or_cases (ends_with nat_eq text (10 ∷ 10 ∷ [])) (ends_with nat_eq text (10 ∷ 13 ∷ 10 ∷ [])) ends)
  where
    by_end : (ends_with nat_eq text (10 ∷ 10 ∷ []) ≡ true) ⊎ (ends_with nat_eq text (10 ∷ 13 ∷ 10 ∷ []) ≡ true) → EndsThere text last
    by_end (inl plain) =
        let fits : 2 ≤ length text = ends_with_fits text (10 ∷ 10 ∷ []) plain in (
          place_of text (10 ∷ 10 ∷ []) 1 last plain (omega (arith, long, fits)),
          inl (omega (arith, long, fits), place_of text (10 ∷ 10 ∷ []) 0 (last - 1) plain (omega (arith, long, fits))),
        )
    by_end (inr both) =
        let fits : 3 ≤ length text = ends_with_fits text (10 ∷ 13 ∷ 10 ∷ []) both in (
          place_of text (10 ∷ 13 ∷ 10 ∷ []) 2 last both (omega (arith, long, fits)),
          inr (
            omega (arith, long, fits),
            place_of text (10 ∷ 13 ∷ 10 ∷ []) 1 (last - 1) both (omega (arith, long, fits)),
            place_of text (10 ∷ 13 ∷ 10 ∷ []) 0 (last - 2) both (omega (arith, long, fits)),
          ),
        )

-- The end of a head is that of an empty line, also if its first bytes precede the part.
module _ (front part : List ℕ) where
  here : (place at : ℕ) → at ≡ length front + place → get_or part place 0 ≡ get_or (front ++ part) at 0
  here place at same = sym (ap (λ i. get_or (front ++ part) i 0) same ∙ get_or-append-add front part place 0)

  is_empty_line : (place : ℕ) → EndsThere (front ++ part) (length front + place) → ends_empty_line part place ≡ true
  is_empty_line place (feed, before) =
      and_from (eqb (get_or part place 0) 10) _ (eq-eqb (get_or part place 0) 10 (here place (length front + place) refl ∙ feed)) (by_place (cases_lt 0 place))
    where
      by_return : (0 < place - 1) ⊎ (place - 1 ≤ 0) → get_or (front ++ part) (length front + place - 2) 0 ≡ 10 → begins_line part (place - 1) ≡ true
      by_return (inr none) line = or_left (eqb (place - 1) 0) _ (eq-eqb (place - 1) 0 (omega (arith, none)))
      by_return (inl some) line =
          or_right (eqb (place - 1) 0) _
          (eq-eqb (get_or part (place - 1 - 1) 0) 10 (here (place - 1 - 1) (length front + place - 2) (omega (arith, some)) ∙ line))

      by_line : 0 < place
          → ((1 ≤ length front + place) × (get_or (front ++ part) (length front + place - 1) 0 ≡ 10))
          ⊎ ((2 ≤ length front + place) × (get_or (front ++ part) (length front + place - 1) 0 ≡ 13)
          × (get_or (front ++ part) (length front + place - 2) 0 ≡ 10))
          → (begins_line part place || is_lone_return part (place - 1)) ≡ true
      by_line some (inl (long, line)) =
          or_left (begins_line part place) _ (or_right (eqb place 0) _
          (eq-eqb (get_or part (place - 1) 0) 10 (here (place - 1) (length front + place - 1) (omega (arith, some)) ∙ line)))
      by_line some (inr (long, return, line)) =
          or_right (begins_line part place) _
          (and_from (eqb (get_or part (place - 1) 0) 13) _
          (eq-eqb (get_or part (place - 1) 0) 13 (here (place - 1) (length front + place - 1) (omega (arith, some)) ∙ return))
          (by_return (cases_lt 0 (place - 1)) line))

      by_place : (0 < place) ⊎ (place ≤ 0) → (begins_line part place || is_lone_return part (place - 1)) ≡ true
      by_place (inr none) = or_left (begins_line part place) _ (or_left (eqb place 0) _ (eq-eqb place 0 (omega (arith, none))))
      by_place (inl some) = by_line some before

-- ---- Parts

-- Only line ends follow an empty line of the bytes.
abbrev pub HasLineEndsBehind : List ℕ → Type 0
HasLineEndsBehind bytes =
    (place later : ℕ) → ends_empty_line bytes place ≡ true → place < later → later < length bytes → is_line_end (get_or bytes later 0) ≡ true

-- An empty line ends at a place of a front if it does so in all bytes, and only then.
front_ends : (bytes : List ℕ) (count place : ℕ) → place < count → ends_empty_line (take count bytes) place ≡ ends_empty_line bytes place
front_ends bytes count place within =
    let here : get_or (take count bytes) place 0 ≡ get_or bytes place 0 = get_or-take count bytes place 0 within in
    let before : get_or (take count bytes) (place - 1) 0 ≡ get_or bytes (place - 1) 0 = get_or-take count bytes (place - 1) 0 (omega arith) in
    let further : get_or (take count bytes) (place - 1 - 1) 0 ≡ get_or bytes (place - 1 - 1) 0 = get_or-take count bytes (place - 1 - 1) 0 (omega arith) in
    rw (here, before, further) refl

-- Bytes without the end of a head in any front, followed by a part, make such a text.
pub parts_end_so : (front part : List ℕ) → HasLineEndsBehind part → ((k : ℕ) → k ≤ length front → ends_head (take k front) ≡ false)
    → EndsInLineEnds (front ++ part)
parts_end_so front part is none n ends = by_order (cases_lt (length front) n)
  where
    behind : (place : ℕ) → n ≡ length front + place + 1 → place < length part → AreLineEnds (drop n (front ++ part))
    behind place at inside =
        let cut : take n (front ++ part) ≡ front ++ take (place + 1) part = take_behind front part n (place + 1) (omega (arith, at)) in
        let long : length (take n (front ++ part)) ≡ length front + place + 1 =
        omega (arith, at, inside, length-take-le n (front ++ part) (omega (arith, at, inside, length-append front part))) in
        let there : EndsThere (take n (front ++ part)) (length front + place) = ends_there (take n (front ++ part)) (length front + place) long ends in
        let empty : ends_empty_line (take (place + 1) part) place ≡ true =
        is_empty_line front (take (place + 1) part) place (subst (λ t. EndsThere t (length front + place)) cut there) in
        let whole : ends_empty_line part place ≡ true = sym (front_ends part (place + 1) place (omega arith)) ∙ empty in
        subst AreLineEnds (sym (drop_behind front part n (place + 1) (omega (arith, at))))
        (All-from_get_or IsLineEnd (drop (place + 1) part) 0 (λ i below.
        ap is_line_end (get_or-drop (place + 1) part i 0)
        ∙ is place (place + 1 + i) whole (omega arith) (omega (arith, below, length-drop (place + 1) part))))

    by_inside : (length part < n - length front) ⊎ (n - length front ≤ length part) → length front < n → AreLineEnds (drop n (front ++ part))
    by_inside (inl past) some =
        subst AreLineEnds (sym (drop_all n (front ++ part) (omega (arith, past, some, length-append front part)))) (All-nil IsLineEnd)
    by_inside (inr within) some = behind (n - length front - 1) (omega (arith, some)) (omega (arith, within, some))

    by_order : (length front < n) ⊎ (n ≤ length front) → AreLineEnds (drop n (front ++ part))
    by_order (inl some) = by_inside (cases_lt (length part) (n - length front)) some
    by_order (inr early) =
        absurd (false≢true (sym (none n early) ∙ ap ends_head (sym (take-append-le n front part early)) ∙ ends))

pub part_ends_so : (part : List ℕ) → HasLineEndsBehind part → EndsInLineEnds part
part_ends_so part is = parts_end_so [] part is none
  where
    none : (k : ℕ) → k ≤ 0 → ends_head (take k []) ≡ false
    none zero within = refl
    none (suc k) within = absurd (omega arith)

-- The same holds for a front of these bytes.
pub front_has_so : (front behind : List ℕ) → HasLineEndsBehind (front ++ behind) → HasLineEndsBehind front
front_has_so front behind has place later is before below =
    let cut : take (length front) (front ++ behind) ≡ front =
    take-append-le (length front) front behind (omega arith) ∙ take_all (length front) front (omega arith) in
    let whole : ends_empty_line (front ++ behind) place ≡ true =
    sym (front_ends (front ++ behind) (length front) place (omega (arith, before, below))) ∙ ap (λ t. ends_empty_line t place) cut ∙ is in
    ap is_line_end (sym (get_or_append_left front behind 0 later below))
    ∙ has place later whole before (omega (arith, below, length-append front behind))

-- Bytes without the end of an empty line before the last byte are a part.
pub pieces_are_parts : PiecesAreParts
pieces_are_parts bytes (some, none) =
    (some, λ place later is before below. absurd (false≢true (sym (none place (omega (arith, before, below))) ∙ is)))
