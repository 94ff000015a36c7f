-- The parts of a line: printable bytes, some of them quotation marks.
use Rattle.std.proofs.Common.{◌≡◌, ℕ, ◌+◌, ◌/◌, ◌%◌, ◌<◌, ◌≤◌, suc, zero, Bool, true, false, ◌==◌, ◌&&◌, List, [], ◌∷◌, ◌++◌, codes, cond, refl, sym, ap, ap₂, ◌∙◌, arith, Option, None, Some, decimal, nat_lt, nat_le, if◌then◌else◌}
use Rattle.std.specs.List.{list_all, flat_map, count_by, sum_by}
use Rattle.std.specs.Fmt.{digit_glyph, digits, digits_onto}
use Rattle.std.proofs.lemmas.Bool.{and_from, and_parts, le-leb, ltb-true, ltb-false, ne_eqb, not-true, not-false, cond-true, cond-false}
use Rattle.std.proofs.lemmas.List.Folds.{list_all-append}
use Rattle.std.proofs.lemmas.List.Sums.{sum_by-append}
use Rattle.sv_access_log.specs.Escaping.{byte_text, escaped, hex_text, is_plain, is_printable, is_shown}
use Rattle.sv_access_log.specs.LineLaws.{quotation_marks}
use Rattle.sv_access_log.specs.declared.escaping.Place.{Place}
use Rattle.sv_access_log.specs.declared.escaping.Place.TheVariants.{Word, Quoted, Json}

-- A printable text with so many quotation marks.
pub record IsPart (marks : ℕ) (text : List ℕ) : Type 0 where
  pub printable : list_all is_printable text ≡ true
  pub count : quotation_marks text ≡ marks

pub part_join : (m n : ℕ) (xs ys : List ℕ) → IsPart m xs → IsPart n ys → IsPart (m + n) (xs ++ ys)
part_join m n xs ys first second = record {
  printable = list_all-append is_printable xs ys ∙ and_from _ _ first.printable second.printable;
  count = sum_by-append (λ b. cond (b == 34) 1 0) xs ys ∙ ap₂ (λ a b. a + b) first.count second.count;
}

pub join : {xs ys : List ℕ} → IsPart 0 xs → IsPart 0 ys → IsPart 0 (xs ++ ys)
join {xs} {ys} first second = part_join 0 0 xs ys first second

-- A byte between the bounds that is no quotation mark.
pub literal : (b : ℕ) → is_printable b ≡ true → (b == 34) ≡ false → IsPart 0 (b ∷ [])
literal b printable other = record { printable = and_from _ _ printable refl; count = ap (λ t. 0 + cond t 1 0) other }

pub above_mark : (b : ℕ) → 34 < b → b ≤ 126 → IsPart 0 (b ∷ [])
above_mark b low high = literal b (and_from _ _ (le-leb 32 b (omega arith)) (le-leb b 126 high)) (ne_eqb b 34 (λ e. omega (arith, e)))

one_of : (t : Bool) (xs ys : List ℕ) → IsPart 0 xs → IsPart 0 ys → IsPart 0 (cond t xs ys)
one_of true xs ys first second = first
one_of false xs ys first second = second

more : (b : ℕ) (rest : List ℕ) → IsPart 0 (b ∷ []) → IsPart 0 rest → IsPart 0 (b ∷ rest)
more b rest first later = part_join 0 0 (b ∷ []) rest first later

-- ---- Numbers

glyph_part : (upper : Bool) (d : ℕ) → d < 16 → IsPart 0 (digit_glyph upper d ∷ [])
glyph_part upper d low = by_test upper (nat_lt d 10)
  where
    by_test : (u t : Bool) → IsPart 0 (cond t (48 + d) (cond u (55 + d) (87 + d)) ∷ [])
    by_test u true = above_mark (48 + d) (omega arith) (omega (arith, low))
    by_test true false = above_mark (55 + d) (omega arith) (omega (arith, low))
    by_test false false = above_mark (87 + d) (omega arith) (omega (arith, low))

digits_part : (k n : ℕ) (acc : List ℕ) → IsPart 0 acc → IsPart 0 (digits_onto k 10 false n acc)
digits_part zero n acc part = part
digits_part (suc k) n acc part =
    let last = more (digit_glyph false (n % 10)) acc (glyph_part false (n % 10) (omega arith)) part in
    one_of (n / 10 == 0) (digit_glyph false (n % 10) ∷ acc) (digits_onto k 10 false (n / 10) (digit_glyph false (n % 10) ∷ acc)) last
    (digits_part k (n / 10) (digit_glyph false (n % 10) ∷ acc) last)

pub decimal_part : (n : ℕ) → IsPart 0 (decimal n)
unfolding digits
decimal_part n = digits_part 64 n [] (record { printable = refl; count = refl })

-- ---- Texts of clients

hex_part : (b : ℕ) → IsPart 0 (hex_text b)
hex_part b =
    part_join 0 0 (codes "\\x") (digit_glyph true (b / 16 % 16) ∷ digit_glyph true (b % 16) ∷ []) (record { printable = refl; count = refl })
    (more (digit_glyph true (b / 16 % 16)) (digit_glyph true (b % 16) ∷ []) (glyph_part true (b / 16 % 16) (omega arith)) (glyph_part true (b % 16) (omega arith)))

shown_part : (t : Bool) (b : ℕ) → (t ≡ true → is_printable b ≡ true) → (t ≡ true → (b == 34) ≡ false) → IsPart 0 (cond t (b ∷ []) (hex_text b))
shown_part true b printable other = literal b (printable refl) (other refl)
shown_part false b printable other = hex_part b

quoted_byte : (b : ℕ) → IsPart 0 (byte_text Quoted b)
quoted_byte b =
    shown_part (is_shown Quoted b) b (λ e. (and_parts _ _ (and_parts _ _ e).0).0) (λ e. not-true _ (and_parts _ _ e).1)

word_byte : (b : ℕ) → IsPart 0 (byte_text Word b)
word_byte b =
    shown_part (is_shown Word b) b (λ e. (and_parts _ _ (and_parts _ _ (and_parts _ _ e).0).0).0)
    (λ e. not-true _ (and_parts _ _ (and_parts _ _ e).0).1)

escaped_part : (place : Place) → ((b : ℕ) → IsPart 0 (byte_text place b)) → (bytes : List ℕ) → IsPart 0 (escaped place bytes)
escaped_part place each [] = record { printable = refl; count = refl }
escaped_part place each (b ∷ bytes) = part_join 0 0 (byte_text place b) (escaped place bytes) (each b) (escaped_part place each bytes)

pub quoted_part : (bytes : List ℕ) → IsPart 0 (escaped Quoted bytes)
quoted_part bytes = escaped_part Quoted quoted_byte bytes

pub word_part : (bytes : List ℕ) → IsPart 0 (escaped Word bytes)
word_part bytes = escaped_part Word word_byte bytes
