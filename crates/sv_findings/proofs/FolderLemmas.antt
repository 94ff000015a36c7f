-- The exact pattern of a folder takes each path from its prefix pattern.
use Rattle.std.proofs.lemmas.Bool.{false≢true, false_from_ne_true, or_cases}
use Rattle.std.proofs.lemmas.Bool.Decides.{Decides-eqb}
use Rattle.std.proofs.lemmas.Slice.Eq.{bytes_eq-Decides, ends_is, starts_is}
use Rattle.std.proofs.Common.{arith, ◌≡◌, ℕ, ◌-◌, Bool, true, false, List, [], ◌∷◌, ◌++◌, length, take, codes, refl, ap, ap₂, sym, ◌∙◌, cond, append_assoc, length-append, inl, inr}
use Rattle.std.specs.Prelude.{nat_eq}
use Rattle.std.specs.List.{ends_with}
use Rattle.std.specs.Str.{bytes_eq}
use Rattle.sv_mapping.specs.BestMatch.{form_rank, is_above, outranks}
use Rattle.sv_mapping.specs.Pattern.{Default, Prefix, Exact, form, form_matches, matches}
use Rattle.sv_mapping.proofs.Rooted.{rooted_cases}
use Rattle.sv_mapping.proofs.TriedTexts.{form-empty}
use Rattle.sv_audit.proofs.Shapes.{IsShaped, filled_end}
use Rattle.sv_audit.specs.Shapes.{has_empty_folder}
use Rattle.sv_findings.specs.Dead.{exact_pattern}

-- A text that ends in a slash does not end in a star.
no_end : (other : List ℕ) → [] ≡ other ++ 47 ∷ 42 ∷ [] → ⊥
no_end other is = absurd (omega (arith, ap length is, length-append other (47 ∷ 42 ∷ [])))

no_front : (front : List ℕ) → front ++ 47 ∷ [] ≡ 42 ∷ [] → ⊥
no_front [] is = let same : ◌≡◌ {A = ℕ} 47 42 = cc in absurd (omega (arith, same))
no_front (b ∷ front) is = absurd (omega (arith, ap length is, length-append front (47 ∷ [])))

slash_or_star : (front other : List ℕ) → front ++ 47 ∷ [] ≡ other ++ 47 ∷ 42 ∷ [] → ⊥
slash_or_star [] [] is = absurd (omega (arith, ap length is))
slash_or_star [] (c ∷ other) is = let rest : [] ≡ other ++ 47 ∷ 42 ∷ [] = cc in no_end other rest
slash_or_star (b ∷ front) [] is = let rest : front ++ 47 ∷ [] ≡ 42 ∷ [] = cc in no_front front rest
slash_or_star (b ∷ front) (c ∷ other) is = let rest : front ++ 47 ∷ [] ≡ other ++ 47 ∷ 42 ∷ [] = cc in slash_or_star front other rest

no_star_end : (path front : List ℕ) → path ≡ front ++ 47 ∷ [] → ends_with nat_eq path (codes "/*") ≡ false
no_star_end path front whole =
    false_from_ne_true _ (λ ended. slash_or_star front (take (length path - 2) path) (sym whole ∙ (ends_is Decides-eqb path (codes "/*") _ refl).0 ended))

-- A path that begins with a slash, and does not end like a prefix pattern, is an exact pattern.
form_slashed : (rest : List ℕ) → bytes_eq (47 ∷ rest) (codes "/") ≡ false → ends_with nat_eq (47 ∷ rest) (codes "/*") ≡ false → form (47 ∷ rest) ≡ Exact (47 ∷ rest)
unfolding form
form_slashed rest other end =
    ap (λ b. cond b Default (cond (ends_with nat_eq (47 ∷ rest) (codes "/*")) (Prefix (take (length (47 ∷ rest) - 2) (47 ∷ rest))) (Exact (47 ∷ rest)))) other
    ∙ ap (λ b. cond b (Prefix (take (length (47 ∷ rest) - 2) (47 ∷ rest))) (Exact (47 ∷ rest))) end

module _ (pattern path prefix : List ℕ) (shaped : IsShaped path) (is : form pattern ≡ Prefix prefix) (ended : ends_with nat_eq prefix (codes "/") ≡ true) where
  abbrev front : List ℕ
  front = take (length prefix - 1) prefix

  whole : prefix ≡ front ++ 47 ∷ []
  whole = (ends_is Decides-eqb prefix (codes "/") _ refl).0 ended

  -- No path of a request is below the folder.
  none_below : (rest : List ℕ) → path ≡ (prefix ++ codes "/") ++ rest → ⊥
  none_below rest lies =
      let split : path ≡ front ++ 47 ∷ 47 ∷ rest = lies ∙ append_assoc prefix (codes "/") rest ∙ ap (λ text. text ++ 47 ∷ rest) whole ∙ append_assoc front (47 ∷ []) (47 ∷ rest) in
      let twice : has_empty_folder (47 ∷ 47 ∷ rest) ≡ false = filled_end front (47 ∷ 47 ∷ rest) (sym (ap has_empty_folder split) ∙ shaped.filled) in
      absurd (false≢true (sym twice))

  module _ (same : path ≡ prefix) where
    path_whole : path ≡ front ++ 47 ∷ []
    path_whole = same ∙ whole

    form_path : bytes_eq path (codes "/") ≡ false → form path ≡ Exact path
    form_path other =
        elim (rooted_cases path shaped.rooted) [
          | inl empty ↦ absurd (omega (arith, ap length (sym empty ∙ path_whole), length-append front (47 ∷ [])))
          | inr slash ↦
              ap form slash.1
              ∙ form_slashed slash.0 (ap (λ text. bytes_eq text (codes "/")) (sym slash.1) ∙ other) (ap (λ text. ends_with nat_eq text (codes "/*")) (sym slash.1) ∙ no_star_end path front path_whole)
              ∙ ap Exact (sym slash.1)
        ]

    taken_at : (root : Bool) → bytes_eq path (codes "/") ≡ root → (matches (cond root [] path) path ≡ true) × (outranks (cond root [] path) pattern ≡ true)
    taken_at true at = (ap (λ f. form_matches f path) form-empty ∙ at, ap₂ (λ f g. is_above (form_rank f) (form_rank g)) form-empty is)
    taken_at false at = (ap (λ f. form_matches f path) (form_path at) ∙ (bytes_eq-Decides path path).1 refl, ap₂ (λ f g. is_above (form_rank f) (form_rank g)) (form_path at) is)

    taken_here : (matches (exact_pattern prefix) path ≡ true) × (outranks (exact_pattern prefix) pattern ≡ true)
    taken_here =
        let it : (matches (exact_pattern path) path ≡ true) × (outranks (exact_pattern path) pattern ≡ true) = taken_at (bytes_eq path (codes "/")) refl in
        (ap (λ text. matches (exact_pattern text) path) (sym same) ∙ it.0, ap (λ text. outranks (exact_pattern text) pattern) (sym same) ∙ it.1)

  -- The exact pattern matches what the prefix pattern matches, and is chosen before it.
  pub taken : matches pattern path ≡ true → (matches (exact_pattern prefix) path ≡ true) × (outranks (exact_pattern prefix) pattern ≡ true)
  taken matched =
      elim (or_cases _ _ (sym (ap (λ f. form_matches f path) is) ∙ matched)) [
        | inl same ↦ taken_here ((bytes_eq-Decides path prefix).0 same)
        | inr below ↦ absurd (none_below _ ((starts_is Decides-eqb path (prefix ++ codes "/") _ refl).0 below))
      ]
