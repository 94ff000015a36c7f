-- Paths and their segments.
use Rattle.std.proofs.Common.{◌≡◌, ℕ, false, List, [], ◌∷◌, ◌++◌, eqb, refl, sym, ◌∙◌, ap, append-nil, inl, inr}
use Rattle.std.specs.List.{flat_map, list_any}
use Rattle.std.proofs.lemmas.Bool.{cases_Bool, eqb-true, or_from, or_parts}
use Rattle.std.specs.List.{onto_first}
use Rattle.sv_mapping.specs.MatchOrder.{fronts}
use Rattle.sv_mapping.specs.Pattern.{is_slash}
use Rattle.sv_mapping.specs.Segments.{between_slashes, segments_of}
use Rattle.sv_mapping.proofs.Cuts.{first_segment, one_segment}

-- The path of these segments.
abbrev pub path_of : List (List ℕ) → List ℕ
path_of segments = flat_map (λ segment. 47 ∷ segment) segments

-- No segment holds a slash.
abbrev pub Clean : List (List ℕ) → Type 0
Clean [] = Unit {0}
Clean (segment ∷ segments) = (list_any is_slash segment ≡ false) × Clean segments

onto_clean : (b : ℕ) (parts : List (List ℕ)) → eqb b 47 ≡ false → Clean parts → Clean (onto_first b parts)
onto_clean b [] e h = (or_from _ _ e refl, tt)
onto_clean b (part ∷ parts) e h = (or_from _ _ e h.0, h.1)

pub clean_between : (text : List ℕ) → Clean (between_slashes text)
clean_between [] = (refl, tt)
clean_between (b ∷ bs) = elim (cases_Bool (eqb b 47)) [ inl e ↦ rw e (refl, clean_between bs) | inr e ↦ rw e (onto_clean b (between_slashes bs) e (clean_between bs)) ]

pub clean_segments : (path : List ℕ) → Clean (segments_of path)
clean_segments [] = tt
clean_segments (b ∷ bs) = elim (cases_Bool (eqb b 47)) [ inl e ↦ rw e (clean_between bs) | inr e ↦ rw e tt ]

tails : (a b : ℕ) (xs ys : List ℕ) → a ∷ xs ≡ b ∷ ys → xs ≡ ys
tails a b xs ys e = cc

onto_path : (b : ℕ) (parts : List (List ℕ)) (bs : List ℕ) → path_of parts ≡ 47 ∷ bs → path_of (onto_first b parts) ≡ 47 ∷ b ∷ bs
onto_path b [] bs h = cc
onto_path b (part ∷ parts) bs h = ap (λ r. 47 ∷ b ∷ r) (tails 47 47 (part ++ path_of parts) bs h)

pub path_between : (text : List ℕ) → path_of (between_slashes text) ≡ 47 ∷ text
path_between [] = refl
path_between (b ∷ bs) = elim (cases_Bool (eqb b 47)) [ inl e ↦ rw e (ap (λ r. 47 ∷ r) (path_between bs ∙ ap (λ c. c ∷ bs) (sym (eqb-true b 47 e)))) | inr e ↦ rw e (onto_path b (between_slashes bs) bs (path_between bs)) ]

-- The segments of a path determine it.
pub path_back : (rest : List ℕ) → path_of (segments_of (47 ∷ rest)) ≡ 47 ∷ rest
path_back rest = path_between rest

pub segments_back : (segments : List (List ℕ)) → Clean segments → segments_of (path_of segments) ≡ segments
segments_back [] h = refl
segments_back (s ∷ []) h = ap between_slashes (append-nil s) ∙ one_segment s h.0
segments_back (s ∷ t ∷ ss) h = first_segment s (t ++ path_of ss) h.0 ∙ ap (λ r. s ∷ r) (segments_back (t ∷ ss) h.1)

-- ---- the fronts of a path
front_plain : (segment : List ℕ) → list_any is_slash segment ≡ false → fronts segment ≡ segment ∷ []
front_plain [] h = refl
front_plain (b ∷ bs) h = let parts = or_parts (eqb b 47) (list_any is_slash bs) h in rw (parts.0, front_plain bs parts.1) refl

-- One more segment is one more front.
pub fronts_further : (path segment : List ℕ) → list_any is_slash segment ≡ false → fronts (path ++ 47 ∷ segment) ≡ (path ++ 47 ∷ segment) ∷ fronts path
fronts_further [] segment h = rw (front_plain segment h) refl
fronts_further (b ∷ bs) segment h = rw (fronts_further bs segment h) refl
