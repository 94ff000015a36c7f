-- The best match of a list of patterns.
use Rattle.std.proofs.Common.{◌≡◌, ℕ, ◌+◌, ◌<◌, ◌≤◌, take, get_or, sym, ◌∙◌, ap, append_assoc, append-nil, Bool, true, false, cond, ◌&&◌, ◌||◌, List, [], ◌∷◌, ◌++◌, length, eqb, ltb, arith, Option, None, Some, IsTrue, refl, inl, inr}
use Rattle.std.specs.Cmp.{IsStrictWeakOrder}
use Rattle.std.specs.List.{Contains, filter}
use Rattle.std.specs.Option.{option_map_or, option_to_list}
use Rattle.std.proofs.lemmas.Bool.{and_from, and_parts, both_ways, cases_Bool, not-true}
use Rattle.std.proofs.lemmas.List.Elements.{filter-append}
use Rattle.std.proofs.lemmas.List.Folds.{list_any-from_Any}
use Rattle.std.proofs.lemmas.List.{length-take, take_all, take_more}
use Rattle.std.proofs.lemmas.Bool.Decides.{nat_tests}
use Rattle.sv_mapping.specs.BestMatch.{is_best, rank, outranks, best, best_pattern, best_with, highest}
use Rattle.sv_mapping.specs.Pattern.{matches}
use Rattle.sv_mapping.proofs.FirstBest.{found_in, found_passes, found-push, place-push, unbeaten_by_itself}

is_above-one_way : (a b c d : ℕ) → (ltb c a || (eqb a c && ltb d b)) ≡ true → (ltb a c || (eqb c a && ltb b d)) ≡ false
is_above-one_way a b c d h = grind (arith, nat_tests)

is_above-chain : (a b c d e f : ℕ) → (ltb c a || (eqb a c && ltb d b)) ≡ false → (ltb e c || (eqb c e && ltb f d)) ≡ false → (ltb e a || (eqb a e && ltb f b)) ≡ false
is_above-chain a b c d e f h k = grind (arith, nat_tests)

pub outranks-order : IsStrictWeakOrder outranks
outranks-order = record {
  one_way = λ x y. is_above-one_way (rank x).0 (rank x).1 (rank y).0 (rank y).1;
  chain = λ x y z. is_above-chain (rank x).0 (rank x).1 (rank y).0 (rank y).1 (rank z).0 (rank z).1;
}

-- Whether a further pattern is a better match than the best one before it.
abbrev pub takes_over : List ℕ → Option (List ℕ) → List ℕ → Bool
takes_over path held pattern = matches pattern path && option_map_or (λ other. outranks pattern other) held true

pub best_pattern-push : (patterns : List (List ℕ)) (path pattern : List ℕ) → best_pattern (patterns ++ pattern ∷ []) path ≡ cond (takes_over path (best_pattern patterns path) pattern) (Some pattern) (best_pattern patterns path)
best_pattern-push patterns path pattern = found-push (λ p. matches p path) outranks outranks-order patterns pattern

pub best-push : (patterns : List (List ℕ)) (path pattern : List ℕ) → best (patterns ++ pattern ∷ []) path ≡ cond (takes_over path (best_pattern patterns path) pattern) (Some (length patterns)) (best patterns path)
best-push patterns path pattern = place-push (λ p. matches p path) outranks outranks-order patterns pattern

-- The best match is one of the patterns, and it matches.
pub best_pattern-member : (patterns : List (List ℕ)) (path pattern : List ℕ) → best_pattern patterns path ≡ Some pattern → Contains patterns pattern × IsTrue (matches pattern path)
best_pattern-member patterns path pattern found = (
  found_in (is_best patterns path) patterns pattern found,
  (and_parts (matches pattern path) _ (found_passes (is_best patterns path) patterns pattern found)).0,
)

-- No pattern of the list that matches outranks a best one.
pub unbeaten_by_member : (patterns : List (List ℕ)) (path pattern other : List ℕ) → is_best patterns path pattern ≡ true → Contains patterns other → matches other path ≡ true → outranks other pattern ≡ false
unbeaten_by_member patterns path pattern other tops member matching =
    elim (cases_Bool (outranks other pattern)) [
      | inr e ↦ e
      | inl e ↦
          let beaten = list_any-from_Any (λ p. matches p path && outranks p pattern) patterns (member.0, other, member.1, member.2, and_from (matches other path) _ matching e) in
          absurd (both_ways _ (not-true _ (and_parts (matches pattern path) _ tops).1) beaten)
    ]

-- ---- one more pattern
take_next : (patterns : List (List ℕ)) (pattern : List ℕ) (i : ℕ) → i < length patterns → pattern ≡ get_or patterns i pattern → take (i + 1) patterns ≡ take i patterns ++ pattern ∷ []
take_next patterns pattern i within at = take_more patterns i pattern within ∙ ap (λ p. take i patterns ++ p ∷ []) (sym at)

pub best_pattern-next : (before patterns : List (List ℕ)) (path pattern : List ℕ) (i : ℕ) (held : Option (List ℕ)) (taken : Bool) → i < length patterns → pattern ≡ get_or patterns i pattern → held ≡ best_pattern (before ++ take i patterns) path → taken ≡ takes_over path held pattern
    → cond taken (Some pattern) held ≡ best_pattern (before ++ take (i + 1) patterns) path
best_pattern-next before patterns path pattern i held taken within at was takes =
    let longer : before ++ take (i + 1) patterns ≡ (before ++ take i patterns) ++ pattern ∷ [] = ap (λ ps. before ++ ps) (take_next patterns pattern i within at) ∙ sym (append_assoc before (take i patterns) (pattern ∷ [])) in
    rw (longer, takes, was) (sym (best_pattern-push (before ++ take i patterns) path pattern))

-- ---- the best of a pattern found before and of further ones
filter-one : (matching : Bool) (pattern : List ℕ) (found : Option (List ℕ)) (known : List (List ℕ)) → highest known ≡ found → highest (known ++ cond matching (pattern ∷ []) []) ≡ cond (matching && option_map_or (λ other. outranks pattern other) found true) (Some pattern) found
filter-one true pattern found known was = rw (← was) (found-push (λ _. true) outranks outranks-order known pattern)
filter-one false pattern found known was = rw append-nil was

-- Without further patterns, the best match is the one found before.
pub best_with-none : (found : Option (List ℕ)) (path : List ℕ) → found ≡ best_with found [] path
best_with-none None path = refl
best_with-none (Some pattern) path = rw (unbeaten_by_itself (λ _. true) outranks outranks-order pattern) refl

pub best_with-next : (found : Option (List ℕ)) (patterns : List (List ℕ)) (path pattern : List ℕ) (i : ℕ) (held : Option (List ℕ)) (taken : Bool) → i < length patterns → pattern ≡ get_or patterns i pattern → held ≡ best_with found (take i patterns) path → taken ≡ takes_over path held pattern
    → cond taken (Some pattern) held ≡ best_with found (take (i + 1) patterns) path
best_with-next found patterns path pattern i held taken within at was takes =
    let known = option_to_list found ++ filter (λ p. matches p path) (take i patterns) in
    let longer : filter (λ p. matches p path) (take (i + 1) patterns) ≡ filter (λ p. matches p path) (take i patterns) ++ cond (matches pattern path) (pattern ∷ []) [] =
    ap (filter (λ p. matches p path)) (take_next patterns pattern i within at) ∙ filter-append (λ p. matches p path) (take i patterns) (pattern ∷ [])
    in
    rw takes
    (sym (ap (λ more. highest (option_to_list found ++ more)) longer
    ∙ ap highest (sym (append_assoc (option_to_list found) (filter (λ p. matches p path) (take i patterns)) (cond (matches pattern path) (pattern ∷ []) [])))
    ∙ filter-one (matches pattern path) pattern held known (sym was)))

pub best-next : (patterns : List (List ℕ)) (path pattern : List ℕ) (i : ℕ) (held : Option (List ℕ)) (place : Option ℕ) (taken : Bool) → i < length patterns → pattern ≡ get_or patterns i pattern → held ≡ best_pattern (take i patterns) path → place ≡ best (take i patterns) path → taken ≡ takes_over path held pattern
    → cond taken (Some i) place ≡ best (take (i + 1) patterns) path
best-next patterns path pattern i held place taken within at was was_at takes =
    let len : length (take i patterns) ≡ i = omega (arith, length-take i patterns) in
    rw (take_next patterns pattern i within at, takes, was, was_at) (ap (λ n. cond (takes_over path (best_pattern (take i patterns) path) pattern) (Some n) (best (take i patterns) path)) (sym len) ∙ sym (best-push (take i patterns) path pattern))

pub best-whole : (patterns : List (List ℕ)) (path : List ℕ) (i : ℕ) (place : Option ℕ) → place ≡ best (take i patterns) path → length patterns ≤ i → place ≡ best patterns path
best-whole patterns path i place was past = rw take_all at was
