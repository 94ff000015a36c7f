-- Paths that are empty or begin with a slash.
use Rattle.std.proofs.Common.{◌≡◌, ℕ, true, List, [], ◌∷◌, ◌++◌, refl, ap, inl, inr, ◌⊎◌}
use Rattle.std.proofs.lemmas.Bool.{and_parts, or_cases, or_right}
use Rattle.std.proofs.lemmas.Bool.Decides.{Decides-eqb}
use Rattle.std.proofs.lemmas.Slice.Eq.{bytes_eq-Decides, starts_is}
use Rattle.sv_mapping.specs.Pattern.{is_pattern}
use Rattle.sv_mapping.specs.Segments.{is_rooted, is_slashed, segments_of}
use Rattle.sv_mapping.proofs.Paths.{path_back, path_of}

pub slashed_rest : (path : List ℕ) → is_slashed path ≡ true → (rest : List ℕ) × (path ≡ 47 ∷ rest)
slashed_rest path h = (_, (starts_is Decides-eqb path (47 ∷ []) _ refl).0 h)

pub rooted_cases : (path : List ℕ) → is_rooted path ≡ true → (path ≡ []) ⊎ ((rest : List ℕ) × (path ≡ 47 ∷ rest))
rooted_cases path h = elim (or_cases _ _ h) [ inl empty ↦ inl ((bytes_eq-Decides path []).0 empty) | inr slash ↦ inr (slashed_rest path slash) ]

pub slashed_rooted : (path rest : List ℕ) → path ≡ 47 ∷ rest → is_rooted path ≡ true
slashed_rooted path rest e = or_right _ _ ((starts_is Decides-eqb path (47 ∷ []) _ refl).1 rest e)

pub rooted_path_of : (segments : List (List ℕ)) → is_rooted (path_of segments) ≡ true
rooted_path_of [] = refl
rooted_path_of (s ∷ ss) = slashed_rooted (path_of (s ∷ ss)) (s ++ path_of ss) refl

pub rooted_back : (path : List ℕ) → is_rooted path ≡ true → path_of (segments_of path) ≡ path
rooted_back path h = elim (rooted_cases path h) [ inl e ↦ rw e refl | inr e ↦ rw e.1 (path_back e.0) ]

heads : (b c : ℕ) (bs cs : List ℕ) → b ∷ bs ≡ c ∷ cs → b ≡ c
heads b c bs cs e = cc

-- The front of a rooted path is rooted.
pub rooted_front : (front back : List ℕ) → is_rooted (front ++ back) ≡ true → is_rooted front ≡ true
rooted_front [] back h = refl
rooted_front (b ∷ bs) back h =
    elim (rooted_cases (b ∷ (bs ++ back)) h) [
      | inl e ↦ let lost : b ∷ (bs ++ back) ≡ [] = e in cc
      | inr e ↦ slashed_rooted (b ∷ bs) bs (ap (λ c. c ∷ bs) (heads b 47 (bs ++ back) e.0 e.1))
    ]

-- A pattern that is not an extension pattern is rooted.
pub rooted_pattern : (text : List ℕ) → is_pattern text ≡ true → ((rest : List ℕ) → text ≡ 42 ∷ 46 ∷ rest → ⊥) → is_rooted text ≡ true
rooted_pattern text h other =
    elim (or_cases _ _ (and_parts _ _ h).1) [
      | inl path ↦ path
      | inr extension ↦ absurd (other _ ((starts_is Decides-eqb text (42 ∷ 46 ∷ []) _ refl).0 (and_parts _ _ extension).0))
    ]
