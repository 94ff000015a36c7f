-- Properties of a tree of nodes while it grows.
use Rattle.std.proofs.Common.{◌≡◌, ◌≢◌, ℕ, ◌+◌, ◌<◌, false, cond, ◌&&◌, List, [], ◌∷◌, ◌++◌, eqb, refl, sym, ◌∙◌, ap, arith, append-nil, append_assoc, Option, Some, None, inl, inr, ◌⊎◌}
use Rattle.std.specs.Option.{option_and_then}
use Rattle.std.specs.Str.{bytes_eq}
use Rattle.std.proofs.lemmas.Bool.{and_parts, cases_Bool, eqb-true, eq-eqb, ne_eqb}
use Rattle.std.proofs.lemmas.Option.{none-some, same_Some}
use Rattle.std.proofs.lemmas.Slice.Eq.{bytes_eq-Decides}
use Rattle.sv_mapping.specs.Trie.{IsTree, kept, reached}

pub cases_Option : {X : Type 0} (o : Option X) → (o ≡ None) ⊎ ((x : X) × (o ≡ Some x))
cases_Option None = inl refl
cases_Option (Some x) = inr (x, refl)

module _ (child : ℕ → List ℕ → Option ℕ) where
  -- One more segment leads to a child.
  pub reached-further : (at : ℕ) (segments : List (List ℕ)) (segment : List ℕ) → reached child at (segments ++ segment ∷ []) ≡ option_and_then (λ next. child next segment) (reached child at segments)
  reached-further at [] segment = whole (child at segment)
    where
      whole : (o : Option ℕ) → option_and_then (λ next. Some next) o ≡ o
      whole None = refl
      whole (Some n) = refl
  reached-further at (s ∷ ss) segment = elim (cases_Option (child at s)) [ inl e ↦ rw e refl | inr e ↦ rw e.1 (reached-further e.0 ss segment) ]

  module _ (count : ℕ) (paths : ℕ → List (List ℕ)) (tree : IsTree child count paths) where
    path_from : (at to : ℕ) (segments : List (List ℕ)) → reached child at segments ≡ Some to → paths to ≡ paths at ++ segments
    path_from at to [] h = ap paths (sym (same_Some at to h)) ∙ sym (append-nil (paths at))
    path_from at to (s ∷ ss) h =
        elim (cases_Option (child at s)) [
          | inl e ↦ absurd (none-some to (rw e at h))
          | inr e ↦ path_from e.0 to ss (rw e.1 at h) ∙ (ap (λ p. p ++ ss) (tree.edges at e.0 s e.1).1 ∙ append_assoc (paths at) (s ∷ []) ss)
        ]

    -- A node determines the segments that lead to it.
    pub path_reached : (to : ℕ) (segments : List (List ℕ)) → reached child 0 segments ≡ Some to → paths to ≡ segments
    path_reached to segments h = path_from 0 to segments h ∙ ap (λ p. p ++ segments) tree.root

-- `next` becomes the child of `at` by the segment, and had no child.
pub record Joins (old new : ℕ → List ℕ → Option ℕ) (at : ℕ) (segment : List ℕ) (next : ℕ) : Type 0 where
  pub children : (from : ℕ) (name : List ℕ) → new from name ≡ cond (eqb from at && bytes_eq segment name) (Some next) (old from name)
  pub free : old at segment ≡ None
  pub leaf : (name : List ℕ) → old next name ≡ None
  pub apart : at < next

module _ (old new : ℕ → List ℕ → Option ℕ) (at : ℕ) (segment : List ℕ) (next : ℕ) (joins : Joins old new at segment next) where
  pub here : new at segment ≡ Some next
  here = rw (joins.children at segment, eq-eqb at at refl, (bytes_eq-Decides segment segment).1 refl) refl

  -- Existing edges stay.
  stays : (from to : ℕ) (name : List ℕ) → old from name ≡ Some to → new from name ≡ Some to
  stays from to name h =
      elim (cases_Bool (eqb from at && bytes_eq segment name)) [
        | inr e ↦ joins.children from name ∙ rw e h
        | inl e ↦
            let parts = and_parts (eqb from at) (bytes_eq segment name) e in
            let lost : old from name ≡ None = ap (λ n. old n name) (eqb-true from at parts.0) ∙ (ap (old at) (sym ((bytes_eq-Decides segment name).0 parts.1)) ∙ joins.free) in
            absurd (none-some to (sym lost ∙ h))
      ]

  -- An edge existed before or is the new one.
  edge : (from to : ℕ) (name : List ℕ) → new from name ≡ Some to → (old from name ≡ Some to) ⊎ ((from ≡ at) × (segment ≡ name) × (to ≡ next))
  edge from to name h =
      elim (cases_Bool (eqb from at && bytes_eq segment name)) [
        | inr e ↦ inl (sym (joins.children from name ∙ rw e refl) ∙ h)
        | inl e ↦
            let parts = and_parts (eqb from at) (bytes_eq segment name) e in
            let made : new from name ≡ Some next = joins.children from name ∙ rw e refl in
            inr (eqb-true from at parts.0, (bytes_eq-Decides segment name).0 parts.1, same_Some to next (sym h ∙ made))
      ]

  leaf_stays : (name : List ℕ) → new next name ≡ None
  leaf_stays name =
      joins.children next name
      ∙ rw (ne_eqb next at (λ same. absurd (omega (arith, same, joins.apart)))) (joins.leaf name)

  pub reached_stays : (from to : ℕ) (segments : List (List ℕ)) → reached old from segments ≡ Some to → reached new from segments ≡ Some to
  reached_stays from to [] h = h
  reached_stays from to (s ∷ ss) h =
      elim (cases_Option (old from s)) [
        | inl e ↦ absurd (none-some to (rw e at h))
        | inr e ↦ rw (stays from e.0 s e.1) (reached_stays e.0 to ss (rw e.1 at h))
      ]

  -- The new node is a leaf without places, so nothing else is found.
  pub kept_stays : (places : ℕ → Option ℕ) → places next ≡ None → (from : ℕ) (segments : List (List ℕ)) → option_and_then places (reached new from segments) ≡ option_and_then places (reached old from segments)
  kept_stays places none from [] = refl
  kept_stays places none from (s ∷ ss) =
      elim (cases_Option (old from s)) [
        | inr e ↦ rw (stays from e.0 s e.1, e.1) (kept_stays places none e.0 ss)
        | inl e ↦ elim (cases_Option (new from s)) [
          | inl f ↦ rw (e, f) refl
          | inr f ↦ elim (edge from f.0 s f.1) [
            | inl was ↦ absurd (none-some f.0 (sym e ∙ was))
            | inr made ↦ rw (e, f.1, made.2) (nothing ss)
          ]
        ]
      ]
    where
      nothing : (ss : List (List ℕ)) → option_and_then places (reached new next ss) ≡ None
      nothing [] = none
      nothing (s ∷ ss) = rw (leaf_stays s) refl

  -- A tree stays a tree.
  pub tree_grows : (count : ℕ) (paths : ℕ → List (List ℕ)) → count ≡ next → IsTree old count paths → IsTree new (count + 1) (λ node. cond (eqb node next) (paths at ++ segment ∷ []) (paths node))
  tree_grows count paths last tree = record {
    some = omega arith;
    root = rw (ne_eqb 0 next (λ same. absurd (omega (arith, same, last, tree.some)))) tree.root;
    edges = λ from to name h. elim (edge from to name h) [
      | inl was ↦
          let known = tree.edges from to name was in
          (omega (arith, known.0), rw (ne_eqb to next (λ same. absurd (omega (arith, same, last, known.0))), apart_from from to name was) known.1)
      | inr made ↦ (omega (arith, made.2, last), rw (eq-eqb to next made.2, made.0, ne_eqb at next (λ same. absurd (omega (arith, same, joins.apart))), made.1) refl)
    ];
  }
    where
      apart_from : (from to : ℕ) (name : List ℕ) → old from name ≡ Some to → eqb from next ≡ false
      apart_from from to name was = ne_eqb from next (λ same. absurd (none-some to (sym (ap (λ n. old n name) same ∙ joins.leaf name) ∙ was)))

-- A place that one more node keeps.
pub kept_here : (child : ℕ → List ℕ → Option ℕ) (places : ℕ → Option ℕ) (at : ℕ) (segments : List (List ℕ)) → reached child 0 segments ≡ Some at → kept child places segments ≡ places at
kept_here child places at segments h = rw h refl

pub kept_others : (child : ℕ → List ℕ → Option ℕ) (old new : ℕ → Option ℕ) (count : ℕ) (paths : ℕ → List (List ℕ)) → IsTree child count paths → (at : ℕ) (segments : List (List ℕ)) → reached child 0 segments ≡ Some at → ((other : ℕ) → other ≢ at → new other ≡ old other) → (others : List (List ℕ)) → others ≢ segments → kept child new others ≡ kept child old others
kept_others child old new count paths tree at segments here same others apart =
    elim (cases_Option (reached child 0 others)) [
      | inl e ↦ rw e refl
      | inr e ↦ rw e.1 (same e.0 (λ one. apart (sym (path_reached child count paths tree e.0 others e.1) ∙ (ap paths one ∙ path_reached child count paths tree at segments here))))
    ]
