-- The place found for a path is that of its best match.
use Rattle.std.proofs.Common.{◌≡◌, ℕ, ◌≤◌, Bool, true, false, not, cond, List, [], ◌∷◌, ◌++◌, eqb, length, map, refl, sym, ◌∙◌, ap, arith, Option, Some, None, inl, inr, ◌⊎◌}
use Rattle.std.specs.HashMap.{get_by_text}
use Rattle.std.specs.List.{list_all}
use Rattle.std.specs.Option.{option_and_then, option_or, option_to_list}
use Rattle.std.specs.Str.{bytes_eq}
use Rattle.std.proofs.lemmas.Bool.{cases_Bool, eqb-true, or_parts}
use Rattle.std.proofs.lemmas.Bool.Decides.{Decides-eqb}
use Rattle.std.proofs.lemmas.Slice.Eq.{starts_is}
use Rattle.sv_mapping.specs.BestMatch.{BestStandsFirst, best}
use Rattle.sv_mapping.specs.MatchOrder.{BestIsFirstTried, BestOfOthers, exact_texts, extension_texts, other_texts, prefix_texts, tried_texts}
use Rattle.sv_mapping.specs.Pattern.{extension, is_pattern}
use Rattle.sv_mapping.specs.declared.pattern_index.Index.{Index}
use Rattle.sv_mapping.specs.Index.{Finds}
use Rattle.sv_mapping.specs.Places.{BestIsLookedUp, beside_trie, exact_place, first_place, in_trie, place_of}
use Rattle.sv_mapping.specs.Segments.{is_rooted, is_slashed, segments, segments_of}
use Rattle.sv_mapping.specs.Trie.{along, child, exact, prefix, reached}
use Rattle.sv_mapping.proofs.Classes.{or_none}
use Rattle.sv_mapping.proofs.Cuts.{segments_counted}
use Rattle.sv_mapping.proofs.Paths.{clean_segments, path_of, segments_back}
use Rattle.sv_mapping.proofs.PlacesLemmas.{first_place-append, placed}
use Rattle.sv_mapping.proofs.Rooted.{rooted_back, rooted_cases, rooted_path_of}
use Rattle.sv_mapping.proofs.Ways.{Stands, longest, way}

-- ---- the way of a path
module _ (index : Index) (patterns : List (List ℕ)) (finds : Finds index patterns) where
  stands : Stands patterns (child index.trie.nodes.items) (exact index.trie.nodes.items) (prefix index.trie.nodes.items) 0 []
  stands = record {
    exacts = λ segments clean. ap (λ s. option_and_then (exact index.trie.nodes.items) (reached (child index.trie.nodes.items) 0 s)) (sym (segments_back segments clean)) ∙ finds.exacts (path_of segments) (rooted_path_of segments);
    prefixes = λ segments clean. ap (λ s. option_and_then (prefix index.trie.nodes.items) (reached (child index.trie.nodes.items) 0 s)) (sym (segments_back segments clean)) ∙ finds.prefixes (path_of segments) (rooted_path_of segments);
  }

  pub way_found : (path : List ℕ) → is_rooted path ≡ true → along (child index.trie.nodes.items) (exact index.trie.nodes.items) (prefix index.trie.nodes.items) 0 (prefix index.trie.nodes.items 0) (segments_of path) ≡ (exact_place patterns path, first_place patterns (prefix_texts path))
  way_found path rooted =
      let root : prefix index.trie.nodes.items 0 ≡ longest patterns [] = stands.prefixes [] tt ∙ sym (or_none (place_of patterns (47 ∷ 42 ∷ []))) in
      ap (λ held. along (child index.trie.nodes.items) (exact index.trie.nodes.items) (prefix index.trie.nodes.items) 0 held (segments_of path)) root
      ∙ (way patterns (child index.trie.nodes.items) (exact index.trie.nodes.items) (prefix index.trie.nodes.items) 0 [] (segments_of path) stands (clean_segments path)
      ∙ ap (λ p. (exact_place patterns p, longest patterns p)) (rooted_back path rooted))

pub pair_first : (a b c d : Option ℕ) → ◌≡◌ {A = Option ℕ × Option ℕ} (a, b) (c, d) → a ≡ c
pair_first a b c d e = ap (λ (p : Option ℕ × Option ℕ). p.0) e

pub pair_second : (a b c d : Option ℕ) → ◌≡◌ {A = Option ℕ × Option ℕ} (a, b) (c, d) → b ≡ d
pair_second a b c d e = ap (λ (p : Option ℕ × Option ℕ). p.1) e

-- ---- the order of the look-ups
extension_place : (patterns : List (List ℕ)) (found : Option (List ℕ)) → first_place patterns (map (λ wanted. 42 ∷ 46 ∷ wanted) (option_to_list found)) ≡ option_and_then (λ wanted. place_of patterns (42 ∷ 46 ∷ wanted)) found
extension_place patterns None = refl
extension_place patterns (Some wanted) = or_none (place_of patterns (42 ∷ 46 ∷ wanted))

or_regrouped : (a b c : Option ℕ) → option_or a (option_or b c) ≡ option_or (option_or a b) c
or_regrouped None b c = refl
or_regrouped (Some n) b c = refl

beside : (patterns : List (List ℕ)) (path : List ℕ) → first_place patterns (extension_texts path ++ (47 ∷ []) ∷ []) ≡ beside_trie patterns path
beside patterns path =
    first_place-append patterns (extension_texts path) ((47 ∷ []) ∷ [])
    ∙ (ap (λ o. option_or o (first_place patterns ((47 ∷ []) ∷ []))) (extension_place patterns (extension path)) ∙ ap (option_or (option_and_then (λ wanted. place_of patterns (42 ∷ 46 ∷ wanted)) (extension path))) (or_none (place_of patterns (47 ∷ []))))

-- The laws of the best match give its place.
module _ (tried : BestIsFirstTried) (others : BestOfOthers) (stands : BestStandsFirst) (patterns : List (List ℕ)) where
  slashed : (rest : List ℕ) → best patterns (47 ∷ rest) ≡ option_or (option_or (exact_place patterns (47 ∷ rest)) (first_place patterns (prefix_texts (47 ∷ rest)))) (beside_trie patterns (47 ∷ rest))
  slashed rest =
      let path = 47 ∷ rest in
      placed stands patterns path (tried_texts path) (tried patterns path ((starts_is Decides-eqb path (47 ∷ []) _ refl).1 rest refl))
      ∙ (first_place-append patterns (exact_texts path) (prefix_texts path ++ (extension_texts path ++ (47 ∷ []) ∷ []))
      ∙ (ap (option_or (exact_place patterns path)) (first_place-append patterns (prefix_texts path) (extension_texts path ++ (47 ∷ []) ∷ []) ∙ ap (option_or (first_place patterns (prefix_texts path))) (beside patterns path))
      ∙ or_regrouped (exact_place patterns path) (first_place patterns (prefix_texts path)) (beside_trie patterns path)))

  module _ (accepted : list_all is_pattern patterns ≡ true) where
    other : (path : List ℕ) → is_slashed path ≡ false → best patterns path ≡ first_place patterns (other_texts path)
    other path bare = placed stands patterns path (other_texts path) (others patterns path accepted (ap not bare))

    pub looked : (path : List ℕ) → best patterns path ≡ option_or (in_trie patterns path) (beside_trie patterns path)
    looked path =
        elim (cases_Bool (is_rooted path)) [
          | inl rooted ↦ rw rooted (rungs (rooted_cases path rooted))
          | inr bare ↦
              let parts = or_parts (bytes_eq path []) (is_slashed path) bare in
              rw bare (other path parts.1 ∙ (ap (λ b. first_place patterns (cond b ((47 ∷ 42 ∷ []) ∷ []) [] ++ (extension_texts path ++ (47 ∷ []) ∷ []))) parts.0 ∙ beside patterns path))
        ]
      where
        rungs : (path ≡ []) ⊎ ((rest : List ℕ) × (path ≡ 47 ∷ rest)) → best patterns path ≡ option_or (option_or (exact_place patterns path) (first_place patterns (prefix_texts path))) (beside_trie patterns path)
        rungs (inl e) = rw e (other [] refl ∙ (ap (option_or (place_of patterns (47 ∷ 42 ∷ []))) (or_none (place_of patterns (47 ∷ []))) ∙ ap (λ o. option_or o (place_of patterns (47 ∷ []))) (sym (or_none (place_of patterns (47 ∷ 42 ∷ []))))))
        rungs (inr e) = rw e.1 (slashed e.0)

-- The place in the index if the trie has none.
same_beside : (index : Index) (patterns : List (List ℕ)) → Finds index patterns → (path : List ℕ) → option_or (option_and_then (λ wanted. get_by_text index.extensions wanted) (extension path)) index.default ≡ beside_trie patterns path
same_beside index patterns finds path =
    ap (λ (places : List ℕ → Option ℕ). option_or (option_and_then places (extension path)) index.default) (λ i wanted. finds.extensions wanted i)
    ∙ ap (option_or (option_and_then (λ wanted. place_of patterns (42 ∷ 46 ∷ wanted)) (extension path))) finds.default

some_first : (a b : Option ℕ) (n : ℕ) → a ≡ Some n → option_or a b ≡ Some n
some_first a b n h = rw h refl

none_first : (a b : Option ℕ) → a ≡ None → option_or a b ≡ b
none_first a b h = rw h refl

apart : (rooted : Bool) (e x : Option ℕ) → cond rooted (option_or e x) None ≡ option_or (cond rooted e None) (cond rooted x None)
apart true e x = refl
apart false e x = refl

both_known : (patterns : List (List ℕ)) (path : List ℕ) (e x : Option ℕ) → e ≡ cond (is_rooted path) (exact_place patterns path) None → x ≡ cond (is_rooted path) (first_place patterns (prefix_texts path)) None → in_trie patterns path ≡ option_or e x
both_known patterns path e x exactly longest =
    apart (is_rooted path) (exact_place patterns path) (first_place patterns (prefix_texts path))
    ∙ sym (ap (λ a. option_or a x) exactly ∙ ap (option_or (cond (is_rooted path) (exact_place patterns path) None)) longest)

pub found_in_trie : BestIsLookedUp → (patterns : List (List ℕ)) (path : List ℕ) (e x : Option ℕ) (n : ℕ) → list_all is_pattern patterns ≡ true → e ≡ cond (is_rooted path) (exact_place patterns path) None → x ≡ cond (is_rooted path) (first_place patterns (prefix_texts path)) None → option_or e x ≡ Some n → Some n ≡ best patterns path
found_in_trie law patterns path e x n accepted exactly longest some =
    sym (law patterns path accepted ∙ some_first (in_trie patterns path) (beside_trie patterns path) n (both_known patterns path e x exactly longest ∙ some))

pub found_beside : BestIsLookedUp → (index : Index) (patterns : List (List ℕ)) (path : List ℕ) (e x found : Option ℕ) → Finds index patterns → e ≡ cond (is_rooted path) (exact_place patterns path) None → x ≡ cond (is_rooted path) (first_place patterns (prefix_texts path)) None → option_or e x ≡ None
    → found ≡ option_or (option_and_then (λ wanted. get_by_text index.extensions wanted) (extension path)) index.default → found ≡ best patterns path
found_beside law index patterns path e x found finds exactly longest none is =
    is ∙ (same_beside index patterns finds path
    ∙ sym (law patterns path finds.accepted ∙ none_first (in_trie patterns path) (beside_trie patterns path) (both_known patterns path e x exactly longest ∙ none)))

-- A path has no more segments than slashes.
pub segments_most : (path : List ℕ) → length (segments_of path) ≤ segments path
segments_most [] = omega arith
segments_most (b ∷ bs) = elim (cases_Bool (eqb b 47)) [ inl e ↦ rw (eqb-true b 47 e) (omega (arith, segments_counted bs)) | inr e ↦ rw e (omega arith) ]
