-- If two patterns match a path and neither outranks the other, they have the same text.
use Rattle.std.proofs.Common.{◌≡◌, ℕ, true, false, ◌&&◌, ◌||◌, List, [], ◌∷◌, take, eqb, ltb, refl, sym, ◌∙◌, ap, arith, Option, Some, None, inl, inr}
use Rattle.std.specs.List.{starts_with, ends_with}
use Rattle.std.specs.Option.{option_map_or}
use Rattle.std.specs.Str.{bytes_eq}
use Rattle.std.proofs.lemmas.Bool.{cases_Bool}
use Rattle.std.proofs.lemmas.Bool.Decides.{nat_tests, Decides-eqb}
use Rattle.std.proofs.lemmas.Slice.Eq.{starts_is, ends_is}
use Rattle.sv_mapping.specs.BestMatch.{form_rank, rank, outranks}
use Rattle.sv_mapping.proofs.Texts.{same_bytes, within_front}
use Rattle.sv_mapping.specs.Pattern.{Form, Root, Default, Extension, Prefix, Exact, extension, form, form_matches, form_text, matches}

pub form_text-form : (text : List ℕ) → form_text (form text) ≡ text
unfolding form
form_text-form text =
    elim (cases_Bool (bytes_eq text [])) [
      | inl e ↦ rw e (sym (same_bytes text [] e))
      | inr e ↦ elim (cases_Bool (bytes_eq text (47 ∷ []))) [
        | inl f ↦ rw (e, f) (sym (same_bytes text (47 ∷ []) f))
        | inr f ↦ elim (cases_Bool (starts_with eqb text (42 ∷ 46 ∷ []))) [
          | inl g ↦ rw (e, f, g) (sym ((starts_is Decides-eqb text (42 ∷ 46 ∷ []) _ refl).0 g))
          | inr g ↦ elim (cases_Bool (ends_with eqb text (47 ∷ 42 ∷ []))) [
            | inl h ↦ rw (e, f, g, h) (sym ((ends_is Decides-eqb text (47 ∷ 42 ∷ []) _ refl).0 h))
            | inr h ↦ rw (e, f, g, h) refl
          ]
        ]
      ]
    ]

-- The text `/` is the default pattern and never exact.
pub exact_is_no_slash : (text : List ℕ) → form text ≡ Exact (47 ∷ []) → ⊥
unfolding form
exact_is_no_slash text e =
    let slash : text ≡ 47 ∷ [] = sym (form_text-form text) ∙ ap form_text e in
    let default : Default ≡ form (47 ∷ []) = refl in
    let same : form (47 ∷ []) ≡ Exact (47 ∷ []) = ap form (sym slash) ∙ e in
    cc

same_extension : (wanted other : List ℕ) (found : Option (List ℕ)) → option_map_or (λ e. bytes_eq e wanted) found false ≡ true → option_map_or (λ e. bytes_eq e other) found false ≡ true → wanted ≡ other
same_extension wanted other None h k = cc
same_extension wanted other (Some found) h k = sym (same_bytes found wanted h) ∙ same_bytes found other k

not_above : (a b c d : ℕ) → (ltb c a || (eqb a c && ltb d b)) ≡ false → (ltb a c || (eqb c a && ltb b d)) ≡ false → (a ≡ c) × (b ≡ d)
not_above a b c d h k = grind (arith, nat_tests)

-- Two forms of the same rank that match the same path are equal, unless one of them is the exact `/`.
same_form : (f g : Form) (path : List ℕ) → ¬ (f ≡ Exact (47 ∷ [])) → ¬ (g ≡ Exact (47 ∷ [])) → form_matches f path ≡ true → form_matches g path ≡ true → (form_rank f).0 ≡ (form_rank g).0 → (form_rank f).1 ≡ (form_rank g).1 → f ≡ g
same_form Root Root path p q m n c l = refl
same_form Default Default path p q m n c l = refl
same_form (Extension x) (Extension y) path p q m n c l = ap Extension (same_extension x y (extension path) m n)
same_form (Prefix x) (Prefix y) path p q m n c l = ap Prefix (sym (within_front x path m) ∙ (ap (λ k. take k path) l ∙ within_front y path n))
same_form (Exact x) (Exact y) path p q m n c l = ap Exact (sym (same_bytes path x m) ∙ same_bytes path y n)
same_form Root (Exact y) path p q m n c l = absurd (q (ap Exact (sym (same_bytes path y n) ∙ same_bytes path (47 ∷ []) m)))
same_form (Exact x) Root path p q m n c l = absurd (p (ap Exact (sym (same_bytes path x m) ∙ same_bytes path (47 ∷ []) n)))
same_form f g path p q m n c l = absurd (omega arith)

pub same_text : (a b path : List ℕ) → matches a path ≡ true → matches b path ≡ true → outranks a b ≡ false → outranks b a ≡ false → a ≡ b
same_text a b path m n over under =
    let ranks = not_above (rank a).0 (rank a).1 (rank b).0 (rank b).1 over under in
    let one = same_form (form a) (form b) path (exact_is_no_slash a) (exact_is_no_slash b) m n ranks.0 ranks.1 in
    sym (form_text-form a) ∙ (ap form_text one ∙ form_text-form b)

-- The form of a text determines the text.
pub says_text : (text : List ℕ) (seen : Form) → seen ≡ form text → form_text seen ≡ text
says_text text seen h = ap form_text h ∙ form_text-form text
