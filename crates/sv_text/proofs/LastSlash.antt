-- Cutting a text at its last slash. A text lies below another if it begins with that text and a slash.
use Rattle.std.proofs.Common.{ℕ, ◌≡◌, ◌+◌, ◌<◌, Bool, true, false, ◌&&◌, ◌||◌, eqb, List, [], ◌∷◌, ◌++◌, length, take, drop, length-append, sym, refl, ap, ◌∙◌, ⊎_elim, arith, take-append-drop}
use Rattle.std.specs.List.{list_any, starts_with}
use Rattle.std.specs.Str.{bytes_eq, NoCharPasses}
use Rattle.std.specs.Str.Pattern.{RFindsChar, SplitsAroundMatch}
use Rattle.std.proofs.lemmas.Bool.{and_right, cases_Bool, eq-eqb, eqb-false, eqb-true, ne_eqb, or_parts}
use Rattle.std.proofs.lemmas.Grind.{get_or_default_zero}
use Rattle.std.proofs.lemmas.List.{drop_more}
use Rattle.std.proofs.lemmas.List.Folds.{list_any_none}
use Rattle.std.proofs.lemmas.Str.Pattern.{NoCharPasses-char}

abbrev pub lies_below : List ℕ → List ℕ → Bool
lies_below outer text = starts_with eqb text (outer ++ 47 ∷ [])

abbrev pub has_slash : List ℕ → Bool
has_slash text = list_any (λ b. eqb b 47) text

eqb-turn : (m n : ℕ) → eqb m n ≡ eqb n m
eqb-turn m n =
    ⊎_elim
    (λ same. same ∙ sym (eq-eqb n m (sym (eqb-true m n same))))
    (λ apart. apart ∙ sym (ne_eqb n m (λ same. eqb-false m n apart (sym same))))
    (cases_Bool (eqb m n))

-- A text without a slash lies below no text.
none_below : (outer text : List ℕ) → has_slash text ≡ false → lies_below outer text ≡ false
none_below [] [] none = refl
none_below [] (b ∷ text) none = ap (λ t. t && true) (eqb-turn 47 b ∙ (or_parts (eqb b 47) (has_slash text) none).0)
none_below (x ∷ outer) [] none = refl
none_below (x ∷ outer) (b ∷ text) none = and_right (eqb x b) (lies_below outer text) (none_below outer text (or_parts (eqb b 47) (has_slash text) none).1)

split_and : (first further here up : Bool) → further ≡ (here || up) → (first && further) ≡ ((first && here) || (first && up))
split_and true further here up is = is
split_and false further here up is = refl

-- If its back has no slash, a text lies below its front and below each text that this front lies below.
below-up : (outer front back : List ℕ) → has_slash back ≡ false → lies_below outer (front ++ 47 ∷ back) ≡ (bytes_eq front outer || lies_below outer front)
below-up [] [] back none = refl
below-up [] (y ∷ front) back none = refl
below-up (x ∷ outer) [] back none = and_right (eqb x 47) (lies_below outer back) (none_below outer back none)
below-up (x ∷ outer) (y ∷ front) back none =
    split_and (eqb x y) (lies_below outer (front ++ 47 ∷ back)) (bytes_eq front outer) (lies_below outer front) (below-up outer front back none)
    ∙ ap (λ same. (same && bytes_eq front outer) || (eqb x y && lies_below outer front)) (eqb-turn x y)

no_slash : (text : List ℕ) → NoCharPasses (λ d. eqb d 47) text → has_slash text ≡ false
no_slash text none = list_any_none (λ b. eqb b 47) text (λ k d within. ne_eqb _ 47 (λ same. NoCharPasses-char 47 text k none (omega arith) within (sym (get_or_default_zero text k d within) ∙ same)))

record IsCut (text front back : List ℕ) : Type 0 where
  pub whole : text ≡ front ++ 47 ∷ back
  pub last : has_slash back ≡ false

cut_at : (text front back : List ℕ) → SplitsAroundMatch (RFindsChar 47) text front back → IsCut text front back
cut_at text front back h =
    let next : h.1 ≡ h.0 + 1 = h.2.1.ends in
    let within : h.0 < length text = omega (arith, h.7, next) in
    let rest = drop_more text h.0 0 within in
    record {
      whole = sym (take-append-drop h.0 text) ∙ (ap (λ xs. take h.0 text ++ xs) (rest ∙ (ap (λ b. b ∷ drop (h.0 + 1) text) (h.2.1.byte (omega arith)) ∙ ap (λ n. 47 ∷ drop n text) (sym next))) ∙ (ap (λ xs. xs ++ 47 ∷ drop h.1 text) (sym h.3) ∙ ap (λ xs. front ++ 47 ∷ xs) (sym h.4)));
      last = ap has_slash h.4 ∙ no_slash (drop h.1 text) h.2.0;
    }

-- The same for the parts that `rsplit_once` returns.
pub below-cut : (text front back outer : List ℕ) → SplitsAroundMatch (RFindsChar 47) text front back → lies_below outer text ≡ (bytes_eq front outer || lies_below outer front)
below-cut text front back outer h =
    let cut = cut_at text front back h in
    ap (lies_below outer) cut.whole ∙ below-up outer front back cut.last

pub below-none : (text outer : List ℕ) → NoCharPasses (λ d. eqb d 47) text → lies_below outer text ≡ false
below-none text outer none = none_below outer text (no_slash text none)

pub front-shorter : (text front back : List ℕ) → SplitsAroundMatch (RFindsChar 47) text front back → length front < length text
front-shorter text front back h =
    let cut = cut_at text front back h in
    omega (arith, ap length cut.whole, length-append front (47 ∷ back))
