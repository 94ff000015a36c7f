-- The paths for which a text is the exact pattern, the prefix pattern, the extension pattern or the default pattern.
use Rattle.std.proofs.Common.{◌≡◌, ℕ, ◌<◌, Bool, true, false, cond, List, [], ◌∷◌, ◌++◌, eqb, length, refl, sym, ◌∙◌, ap, arith, length-append, Option, Some, None, inl, inr}
use Rattle.std.specs.List.{ends_with}
use Rattle.std.specs.Option.{option_or}
use Rattle.std.specs.Str.{bytes_eq}
use Rattle.std.proofs.lemmas.Bool.{both_ways, cases_Bool, false_from_ne_true}
use Rattle.std.proofs.lemmas.Bool.Decides.{Decides-eqb}
use Rattle.std.proofs.lemmas.Slice.Eq.{bytes_eq-Decides, ends_is}
use Rattle.sv_mapping.specs.Places.{exact_place, place_of}
use Rattle.sv_mapping.specs.Segments.{is_rooted}
use Rattle.sv_mapping.proofs.PlacesLemmas.{place-push}
use Rattle.sv_mapping.proofs.Rooted.{rooted_cases}

-- The pattern is the exact one for the path.
abbrev pub fits_exactly : List ℕ → List ℕ → Bool
fits_exactly pattern [] = false
fits_exactly pattern (b ∷ bs) = cond (bytes_eq (b ∷ bs) (47 ∷ [])) (bytes_eq pattern []) (cond (ends_with eqb (b ∷ bs) (47 ∷ 42 ∷ [])) false (bytes_eq pattern (b ∷ bs)))

abbrev pub one : ℕ → Bool → Option ℕ
one n test = cond test (Some n) None

pub or_none : (o : Option ℕ) → option_or o None ≡ o
or_none None = refl
or_none (Some n) = refl

alone-push : (patterns : List (List ℕ)) (pattern text : List ℕ) → option_or (place_of (patterns ++ pattern ∷ []) text) None ≡ option_or (option_or (place_of patterns text) None) (one (length patterns) (bytes_eq pattern text))
alone-push patterns pattern text =
    or_none (place_of (patterns ++ pattern ∷ []) text) ∙ (place-push patterns pattern text ∙ ap (λ o. option_or o (one (length patterns) (bytes_eq pattern text))) (sym (or_none (place_of patterns text))))

pub exact-push : (patterns : List (List ℕ)) (pattern path : List ℕ) → exact_place (patterns ++ pattern ∷ []) path ≡ option_or (exact_place patterns path) (one (length patterns) (fits_exactly pattern path))
exact-push patterns pattern [] = refl
exact-push patterns pattern (b ∷ bs) =
    elim (cases_Bool (bytes_eq (b ∷ bs) (47 ∷ []))) [
      | inl e ↦ rw e (alone-push patterns pattern [])
      | inr e ↦ elim (cases_Bool (ends_with eqb (b ∷ bs) (47 ∷ 42 ∷ []))) [ inl f ↦ rw (e, f) refl | inr f ↦ rw (e, f) (alone-push patterns pattern (b ∷ bs)) ]
    ]

pub same_bytes : (a b : List ℕ) → bytes_eq a b ≡ true → a ≡ b
same_bytes a b h = (bytes_eq-Decides a b).0 h

pub unequal : (a b : List ℕ) → (a ≡ b → ⊥) → bytes_eq a b ≡ false
unequal a b apart = false_from_ne_true _ (λ h. apart (same_bytes a b h))

pub equal : (a b : List ℕ) → a ≡ b → bytes_eq a b ≡ true
equal a b h = (bytes_eq-Decides a b).1 h

swapped : (a b : List ℕ) → bytes_eq a b ≡ bytes_eq b a
swapped a b = elim (cases_Bool (bytes_eq b a)) [ inl e ↦ equal a b (sym (same_bytes b a e)) ∙ sym e | inr e ↦ unequal a b (λ h. both_ways _ e (equal b a (sym h))) ∙ sym e ]

-- ---- the empty text
pub empty_exact : (path : List ℕ) → fits_exactly [] path ≡ bytes_eq path (47 ∷ [])
empty_exact [] = refl
empty_exact (b ∷ bs) =
    elim (cases_Bool (bytes_eq (b ∷ bs) (47 ∷ []))) [
      | inl e ↦ rw e refl
      | inr e ↦ elim (cases_Bool (ends_with eqb (b ∷ bs) (47 ∷ 42 ∷ []))) [ inl f ↦ rw (e, f) refl | inr f ↦ rw (e, f) refl ]
    ]

pub short_prefix : (text path : List ℕ) → length text < 2 → bytes_eq text (path ++ 47 ∷ 42 ∷ []) ≡ false
short_prefix text path short = unequal text (path ++ 47 ∷ 42 ∷ []) (λ h. absurd (omega (arith, short, ap length h, length-append path (47 ∷ 42 ∷ []))))

-- ---- the text of a slash
pub slash_exact : (path : List ℕ) → fits_exactly (47 ∷ []) path ≡ false
slash_exact [] = refl
slash_exact (b ∷ bs) =
    elim (cases_Bool (bytes_eq (b ∷ bs) (47 ∷ []))) [
      | inl e ↦ rw e refl
      | inr e ↦ elim (cases_Bool (ends_with eqb (b ∷ bs) (47 ∷ 42 ∷ []))) [ inl f ↦ rw (e, f) refl | inr f ↦ rw (e, f) (swapped (47 ∷ []) (b ∷ bs) ∙ e) ]
    ]

-- ---- an extension pattern
pub starred_exact : (wanted path : List ℕ) → is_rooted path ≡ true → fits_exactly (42 ∷ 46 ∷ wanted) path ≡ false
starred_exact wanted path rooted = elim (rooted_cases path rooted) [ inl e ↦ rw e refl | inr e ↦ rw e.1 (tail e.0) ]
  where
    tail : (rest : List ℕ) → fits_exactly (42 ∷ 46 ∷ wanted) (47 ∷ rest) ≡ false
    tail rest =
        elim (cases_Bool (bytes_eq (47 ∷ rest) (47 ∷ []))) [
          | inl e ↦ rw e refl
          | inr e ↦ elim (cases_Bool (ends_with eqb (47 ∷ rest) (47 ∷ 42 ∷ []))) [ inl f ↦ rw (e, f) refl | inr f ↦ rw (e, f) refl ]
        ]

pub starred_prefix : (wanted path : List ℕ) → is_rooted path ≡ true → bytes_eq (42 ∷ 46 ∷ wanted) (path ++ 47 ∷ 42 ∷ []) ≡ false
starred_prefix wanted path rooted = elim (rooted_cases path rooted) [ inl e ↦ rw e refl | inr e ↦ rw e.1 refl ]

-- ---- a prefix pattern
pub prefix_exact : (front path : List ℕ) → fits_exactly (front ++ 47 ∷ 42 ∷ []) path ≡ false
prefix_exact front [] = refl
prefix_exact front (b ∷ bs) =
    elim (cases_Bool (bytes_eq (b ∷ bs) (47 ∷ []))) [
      | inl e ↦ rw e (unequal _ [] (λ h. absurd (omega (arith, ap length h, length-append front (47 ∷ 42 ∷ [])))))
      | inr e ↦ elim (cases_Bool (ends_with eqb (b ∷ bs) (47 ∷ 42 ∷ []))) [
        | inl f ↦ rw (e, f) refl
        | inr f ↦ rw (e, f) (unequal _ (b ∷ bs) (λ h. both_ways _ f ((ends_is Decides-eqb (b ∷ bs) (47 ∷ 42 ∷ []) _ refl).1 front (sym h))))
      ]
    ]

tails : (b c : ℕ) (bs cs : List ℕ) → b ∷ bs ≡ c ∷ cs → bs ≡ cs
tails b c bs cs e = cc

heads : (b c : ℕ) (bs cs : List ℕ) → b ∷ bs ≡ c ∷ cs → b ≡ c
heads b c bs cs e = cc

same_front : (a b : List ℕ) → a ++ 47 ∷ 42 ∷ [] ≡ b ++ 47 ∷ 42 ∷ [] → a ≡ b
same_front [] [] h = refl
same_front [] (x ∷ xs) h = absurd (omega (arith, ap length h, length-append xs (47 ∷ 42 ∷ [])))
same_front (x ∷ xs) [] h = absurd (omega (arith, ap length h, length-append xs (47 ∷ 42 ∷ [])))
same_front (x ∷ xs) (y ∷ ys) h =
    let first : x ≡ y = heads x y (xs ++ 47 ∷ 42 ∷ []) (ys ++ 47 ∷ 42 ∷ []) h in
    let rest : xs ≡ ys = same_front xs ys (tails x y (xs ++ 47 ∷ 42 ∷ []) (ys ++ 47 ∷ 42 ∷ []) h) in
    rw (first, rest) refl

pub prefix_prefix : (front path : List ℕ) → bytes_eq (front ++ 47 ∷ 42 ∷ []) (path ++ 47 ∷ 42 ∷ []) ≡ bytes_eq path front
prefix_prefix front path =
    elim (cases_Bool (bytes_eq path front)) [
      | inl e ↦ equal _ _ (ap (λ f. f ++ 47 ∷ 42 ∷ []) (sym (same_bytes path front e))) ∙ sym e
      | inr e ↦ unequal _ _ (λ h. both_ways _ e (equal path front (sym (same_front front path h)))) ∙ sym e
    ]

-- ---- an exact pattern
pub exact_exact : (text path : List ℕ) → (text ≡ [] → ⊥) → (text ≡ 47 ∷ [] → ⊥) → ((front : List ℕ) → text ≡ front ++ 47 ∷ 42 ∷ [] → ⊥) → fits_exactly text path ≡ bytes_eq path text
exact_exact text [] some other end = sym (unequal [] text (λ h. some (sym h)))
exact_exact text (b ∷ bs) some other end =
    elim (cases_Bool (bytes_eq (b ∷ bs) (47 ∷ []))) [
      | inl e ↦ rw e (unequal text [] some ∙ sym (unequal (b ∷ bs) text (λ h. other (sym h ∙ same_bytes (b ∷ bs) (47 ∷ []) e))))
      | inr e ↦ elim (cases_Bool (ends_with eqb (b ∷ bs) (47 ∷ 42 ∷ []))) [
        | inl f ↦ rw (e, f) (sym (unequal (b ∷ bs) text (λ h. end _ (sym h ∙ (ends_is Decides-eqb (b ∷ bs) (47 ∷ 42 ∷ []) _ refl).0 f))))
        | inr f ↦ rw (e, f) (swapped text (b ∷ bs))
      ]
    ]
