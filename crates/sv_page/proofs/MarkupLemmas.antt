-- A text in HTML has no angle bracket and no quote.
use Rattle.std.proofs.Common.{◌≡◌, ℕ, ◌+◌, ◌/◌, ◌%◌, ◌≤◌, Bool, true, false, ◌||◌, ◌==◌, List, [], ◌∷◌, ◌∙◌, codes, cond, refl, ap, ap₂, arith, nat_lt, if◌then◌else◌}
use Rattle.std.proofs.lemmas.Bool.{ne_eqb}
use Rattle.std.proofs.lemmas.List.Folds.{list_any-append}
use Rattle.std.specs.Char.{encode_utf8, is_control}
use Rattle.std.specs.Fmt.{digit_glyph}
use Rattle.std.specs.List.{flat_map, list_any}
use Rattle.std.specs.Str.{chars}
use Rattle.sv_report.specs.Escaped.{escape_text}
use Rattle.sv_page.specs.Markup.{html_character, html_text, is_markup, other_character}

none : (b : ℕ) → (b == 60) ≡ false → (b == 62) ≡ false → (b == 34) ≡ false → (b == 39) ≡ false → is_markup b ≡ false
none b l g q s = ap₂ (λ x y. x || y) (ap₂ (λ x y. x || y) (ap₂ (λ x y. x || y) l g) q) s

high : (b : ℕ) → 128 ≤ b → is_markup b ≡ false
high b h =
    none b (ne_eqb b 60 (λ e. omega (arith, h, e))) (ne_eqb b 62 (λ e. omega (arith, h, e))) (ne_eqb b 34 (λ e. omega (arith, h, e)))
    (ne_eqb b 39 (λ e. omega (arith, h, e)))

glyph : (d : ℕ) → is_markup (digit_glyph false d) ≡ false
glyph d = grind arith

in_escape : (c : ℕ) → list_any is_markup (escape_text c) ≡ false
in_escape c = ap₂ (λ x y. x || (y || false)) (glyph (c / 16)) (glyph (c % 16))

in_encoded : (c : ℕ) → is_markup c ≡ false → list_any is_markup (encode_utf8 c) ≡ false
unfolding encode_utf8
in_encoded c h = of_size (nat_lt c 128) (nat_lt c 2048) (nat_lt c 65536)
  where
    of_size : (one two three : Bool)
        → list_any is_markup (cond one (c ∷ []) (cond two ((192 + c / 64) ∷ (128 + c % 64) ∷ [])
        (cond three ((224 + c / 4096) ∷ (128 + c / 64 % 64) ∷ (128 + c % 64) ∷ []) ((240 + c / 262144) ∷ (128 + c / 4096 % 64) ∷ (128 + c / 64 % 64) ∷ (128 + c % 64) ∷ [])))) ≡ false
    of_size true two three = ap (λ x. x || false) h
    of_size false true three = ap₂ (λ x y. x || (y || false)) (high (192 + c / 64) (omega arith)) (high (128 + c % 64) (omega arith))
    of_size false false true =
        ap₂ (λ x y. x || y) (high (224 + c / 4096) (omega arith)) (ap₂ (λ x y. x || (y || false)) (high (128 + c / 64 % 64) (omega arith)) (high (128 + c % 64) (omega arith)))
    of_size false false false =
        ap₂ (λ x y. x || y) (high (240 + c / 262144) (omega arith)) (ap₂ (λ x y. x || y) (high (128 + c / 4096 % 64) (omega arith))
        (ap₂ (λ x y. x || (y || false)) (high (128 + c / 64 % 64) (omega arith)) (high (128 + c % 64) (omega arith))))

in_other : (c : ℕ) → is_markup c ≡ false → list_any is_markup (other_character c) ≡ false
in_other c h = of_test (is_control c)
  where
    of_test : (b : Bool) → list_any is_markup (if b then escape_text c else encode_utf8 c) ≡ false
    of_test true = in_escape c
    of_test false = in_encoded c h

in_character : (c : ℕ) → list_any is_markup (html_character c) ≡ false
in_character c = of_tests (c == 38) (c == 60) (c == 62) (c == 34) (c == 39) (none c)
  where
    of_tests : (a l g q s : Bool) → (l ≡ false → g ≡ false → q ≡ false → s ≡ false → is_markup c ≡ false)
        → list_any is_markup (if a then codes "&amp;" else if l then codes "&lt;" else if g then codes "&gt;" else if q then codes "&quot;" else if s then codes "&#39;" else other_character c) ≡ false
    of_tests true l g q s h = refl
    of_tests false true g q s h = refl
    of_tests false false true q s h = refl
    of_tests false false false true s h = refl
    of_tests false false false false true h = refl
    of_tests false false false false false h = in_other c (h refl refl refl refl)

in_characters : (cs : List ℕ) → list_any is_markup (flat_map html_character cs) ≡ false
in_characters [] = refl
in_characters (c ∷ cs) = list_any-append is_markup (html_character c) (flat_map html_character cs) ∙ ap₂ (λ x y. x || y) (in_character c) (in_characters cs)

pub text_is_plain : (text : List ℕ) → list_any is_markup (html_text text) ≡ false
unfolding html_text
text_is_plain text = in_characters (chars text)
