-- The places found along the segments of a path.
use Rattle.std.proofs.Common.{◌≡◌, ℕ, false, List, [], ◌∷◌, ◌++◌, map, refl, sym, ◌∙◌, ap, append-nil, append_assoc, Option, Some, None, inl, inr}
use Rattle.std.specs.List.{list_any}
use Rattle.std.specs.Option.{option_and_then, option_or}
use Rattle.sv_mapping.specs.MatchOrder.{prefix_texts}
use Rattle.sv_mapping.specs.Pattern.{is_slash}
use Rattle.sv_mapping.specs.Places.{exact_place, first_place, place_of}
use Rattle.sv_mapping.specs.Trie.{along, reached}
use Rattle.sv_mapping.proofs.Paths.{Clean, fronts_further, path_of}
use Rattle.sv_mapping.proofs.Trees.{cases_Option}

module _ (patterns : List (List ℕ)) where
  -- The place of the prefix pattern for this path and all paths below it.
  abbrev below : List ℕ → Option ℕ
  below path = place_of patterns (path ++ 47 ∷ 42 ∷ [])

  -- The place of the longest prefix pattern for a path.
  abbrev pub longest : List ℕ → Option ℕ
  longest path = first_place patterns (prefix_texts path)

  longest-further : (path segment : List ℕ) → list_any is_slash segment ≡ false → longest (path ++ 47 ∷ segment) ≡ option_or (below (path ++ 47 ∷ segment)) (longest path)
  longest-further path segment clean = ap (λ fs. first_place patterns (map (λ front. front ++ 47 ∷ 42 ∷ []) fs)) (fronts_further path segment clean)

  or_none : (o : Option ℕ) → option_or o None ≡ o
  or_none None = refl
  or_none (Some n) = refl

  -- If no path further on has a prefix pattern, the longest stays the same.
  longest_stays : (path : List ℕ) (segments : List (List ℕ)) → Clean segments → ((others : List (List ℕ)) → Clean others → below (path ++ path_of others) ≡ None) → longest (path ++ path_of segments) ≡ longest path
  longest_stays path [] clean none = ap longest (append-nil path)
  longest_stays path (s ∷ ss) clean none =
      let further : path ++ ((47 ∷ s) ++ path_of ss) ≡ (path ++ 47 ∷ s) ++ path_of ss = sym (append_assoc path (47 ∷ s) (path_of ss)) in
      let here : below (path ++ 47 ∷ s) ≡ None = ap below (ap (λ r. path ++ 47 ∷ r) (sym (append-nil s))) ∙ none (s ∷ []) (clean.0, tt) in
      ap longest further
      ∙ (longest_stays (path ++ 47 ∷ s) ss clean.1 (λ others c. ap below (append_assoc path (47 ∷ s) (path_of others)) ∙ none (s ∷ others) (clean.0, c))
      ∙ (longest-further path s clean.0 ∙ ap (λ o. option_or o (longest path)) here))

  -- The nodes from `at` on keep the places that the patterns have from this path on.
  pub record Stands (child : ℕ → List ℕ → Option ℕ) (exact prefix : ℕ → Option ℕ) (at : ℕ) (path : List ℕ) : Type 0 where
    pub exacts : (segments : List (List ℕ)) → Clean segments → option_and_then exact (reached child at segments) ≡ exact_place patterns (path ++ path_of segments)
    pub prefixes : (segments : List (List ℕ)) → Clean segments → option_and_then prefix (reached child at segments) ≡ below (path ++ path_of segments)

  module _ (child : ℕ → List ℕ → Option ℕ) (exact prefix : ℕ → Option ℕ) where
    longer : (path segment : List ℕ) (others : List (List ℕ)) → path ++ ((47 ∷ segment) ++ path_of others) ≡ (path ++ 47 ∷ segment) ++ path_of others
    longer path segment others = sym (append_assoc path (47 ∷ segment) (path_of others))

    ended : (at : ℕ) (path segment : List ℕ) (ss : List (List ℕ)) → Stands child exact prefix at path → Clean (segment ∷ ss) → child at segment ≡ None
        → along child exact prefix at (longest path) (segment ∷ ss) ≡ (exact_place patterns (path ++ ((47 ∷ segment) ++ path_of ss)), longest (path ++ ((47 ∷ segment) ++ path_of ss)))
    ended at path segment ss stands clean e =
        let none : (others : List (List ℕ)) → Clean others → below ((path ++ 47 ∷ segment) ++ path_of others) ≡ None = λ others c. ap below (sym (longer path segment others)) ∙ (sym (stands.prefixes (segment ∷ others) (clean.0, c)) ∙ rw e refl) in
        let exactly : exact_place patterns (path ++ ((47 ∷ segment) ++ path_of ss)) ≡ None = sym (stands.exacts (segment ∷ ss) clean) ∙ rw e refl in
        let here : below (path ++ 47 ∷ segment) ≡ None = ap below (sym (append-nil (path ++ 47 ∷ segment))) ∙ none [] tt in
        let last : longest (path ++ ((47 ∷ segment) ++ path_of ss)) ≡ longest path = ap longest (longer path segment ss) ∙ (longest_stays (path ++ 47 ∷ segment) ss clean.1 none ∙ (longest-further path segment clean.0 ∙ ap (λ o. option_or o (longest path)) here)) in
        rw (e, exactly, last) refl

    stepped : (places : ℕ → Option ℕ) (at next : ℕ) (segment : List ℕ) (others : List (List ℕ)) → child at segment ≡ Some next → option_and_then places (reached child next others) ≡ option_and_then places (reached child at (segment ∷ others))
    stepped places at next segment others e = rw e refl

    onward : (at next : ℕ) (path segment : List ℕ) → Stands child exact prefix at path → list_any is_slash segment ≡ false → child at segment ≡ Some next → Stands child exact prefix next (path ++ 47 ∷ segment)
    onward at next path segment stands clean e = record {
      exacts = λ others c. stepped exact at next segment others e ∙ (stands.exacts (segment ∷ others) (clean, c) ∙ ap (exact_place patterns) (longer path segment others));
      prefixes = λ others c. stepped prefix at next segment others e ∙ (stands.prefixes (segment ∷ others) (clean, c) ∙ ap below (longer path segment others));
    }

    held_onward : (next : ℕ) (path segment : List ℕ) → Stands child exact prefix next (path ++ 47 ∷ segment) → list_any is_slash segment ≡ false → option_or (prefix next) (longest path) ≡ longest (path ++ 47 ∷ segment)
    held_onward next path segment stands clean =
        ap (λ o. option_or o (longest path)) (stands.prefixes [] tt ∙ ap below (append-nil (path ++ 47 ∷ segment))) ∙ sym (longest-further path segment clean)

    pub way : (at : ℕ) (path : List ℕ) (segments : List (List ℕ)) → Stands child exact prefix at path → Clean segments → along child exact prefix at (longest path) segments ≡ (exact_place patterns (path ++ path_of segments), longest (path ++ path_of segments))
    way at path [] stands clean = ap (λ e. (e, longest path)) (stands.exacts [] tt) ∙ ap (λ p. (exact_place patterns (path ++ []), longest p)) (sym (append-nil path))
    way at path (s ∷ ss) stands clean =
        elim (cases_Option (child at s)) [
          | inl e ↦ ended at path s ss stands clean e
          | inr e ↦
              let further = onward at e.0 path s stands clean.0 e.1 in
              rw e.1 (ap (λ h. along child exact prefix e.0 h ss) (held_onward e.0 path s further clean.0) ∙ (way e.0 (path ++ 47 ∷ s) ss further clean.1 ∙ ap (λ p. (exact_place patterns p, longest p)) (sym (longer path s ss))))
        ]
