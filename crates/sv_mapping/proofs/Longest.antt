-- The longest context path that serves a path.
use Rattle.std.proofs.Common.{◌≡◌, ℕ, Bool, true, false, cond, ◌&&◌, ◌||◌, not, List, [], ◌∷◌, length, take, ltb, refl, sym, ◌∙◌, ap, arith, inl, inr}
use Rattle.std.specs.List.{Contains, list_any}
use Rattle.std.proofs.lemmas.Bool.Decides.{nat_tests}
use Rattle.std.proofs.lemmas.Bool.{and_from, and_parts, both_ways, cases_Bool, false_from_ne_true, le-ltb, ltb-false, not-true, not_from_false, or_cases, or_left, or_right}
use Rattle.std.proofs.lemmas.List.Folds.{list_any-from_Any}
use Rattle.std.proofs.Math.Bool.{or_comm, or-false}
use Rattle.sv_mapping.specs.Pattern.{is_at_or_below}
use Rattle.sv_mapping.specs.Chosen.{is_chosen}
use Rattle.sv_mapping.proofs.ContextPathTexts.{below_front}

-- No context path of the list that serves the path is longer than a chosen one.
not_longer : (contexts : List (List ℕ)) (path a b : List ℕ) → Contains contexts b → is_at_or_below b path ≡ true → is_chosen contexts path a ≡ true → ltb (length a) (length b) ≡ false
not_longer contexts path a b member serves chosen =
    elim (cases_Bool (ltb (length a) (length b))) [
      | inr e ↦ e
      | inl e ↦
          let found = list_any-from_Any (λ other. is_at_or_below other path && ltb (length a) (length other)) contexts (member.0, b, member.1, member.2, and_from _ _ serves e) in
          absurd (both_ways _ (not-true _ (and_parts (is_at_or_below a path) _ chosen).1) found)
    ]

pub chosen_equal : (contexts : List (List ℕ)) (path a b : List ℕ) → Contains contexts a → Contains contexts b → is_chosen contexts path a ≡ true → is_chosen contexts path b ≡ true → a ≡ b
chosen_equal contexts path a b a_in b_in a_chosen b_chosen =
    let a_serves = (and_parts (is_at_or_below a path) _ a_chosen).0 in
    let b_serves = (and_parts (is_at_or_below b path) _ b_chosen).0 in
    let over = ltb-false _ _ (not_longer contexts path a b b_in b_serves a_chosen) in
    let under = ltb-false _ _ (not_longer contexts path b a a_in a_serves b_chosen) in
    let same : length a ≡ length b = omega (arith, over, under) in
    sym (below_front a path a_serves) ∙ (ap (λ n. take n path) same ∙ below_front b path b_serves)

-- ---- the longest
longer_of_two : (len longest other : ℕ) → (ltb len longest || ltb len other) ≡ ltb len (cond (ltb longest other) other longest)
longer_of_two len longest other =
    elim (cases_Bool (ltb longest other)) [ inl e ↦ rw e (grind (arith, nat_tests, e)) | inr e ↦ rw e (grind (arith, nat_tests, e)) ]

pub next_longest : (len longest other : ℕ) (serves : Bool)
    → (ltb len longest || (serves && ltb len other)) ≡ ltb len (cond (serves && ltb longest other) other longest)
next_longest len longest other true = longer_of_two len longest other
next_longest len longest other false = or-false (ltb len longest)

-- ---- if one serves, one is chosen
weaken : {X : Type 0} (t u : X → Bool) → ((x : X) → t x ≡ true → u x ≡ true) → (xs : List X) → list_any t xs ≡ true → list_any u xs ≡ true
weaken t u weaker [] h = cc
weaken t u weaker (x ∷ xs) h = elim (or_cases (t x) (list_any t xs) h) [ inl e ↦ or_left _ _ (weaker x e) | inr e ↦ or_right _ _ (weaken t u weaker xs e) ]

module _ (path : List ℕ) where
  abbrev serves : List ℕ → Bool
  serves context = is_at_or_below context path

  longest_of : List (List ℕ) → ℕ
  longest_of [] = 0
  longest_of (context ∷ rest) = cond (serves context && ltb (longest_of rest) (length context)) (length context) (longest_of rest)

  longer_than : (len : ℕ) (contexts : List (List ℕ)) → list_any (λ other. serves other && ltb len (length other)) contexts ≡ ltb len (longest_of contexts)
  unfolding longest_of
  longer_than len [] = sym (le-ltb len 0 (omega arith))
  longer_than len (context ∷ rest) =
      rw (longer_than len rest) (or_comm (serves context && ltb len (length context)) (ltb len (longest_of rest)) ∙ next_longest len (longest_of rest) (length context) (serves context))

  abbrev reaches : ℕ → List ℕ → Bool
  reaches longest context = serves context && not (ltb (length context) longest)

  -- The first context, and the length of the longest after it.
  attained_at : (context : List ℕ) (rest : List (List ℕ)) (longest : ℕ) (here longer : Bool) → here ≡ serves context → longer ≡ ltb longest (length context)
      → (list_any serves rest ≡ true → list_any (reaches longest) rest ≡ true) → (ltb (length context) longest ≡ true → list_any serves rest ≡ true)
      → (here || list_any serves rest) ≡ true
      → (reaches (cond (here && longer) (length context) longest) context || list_any (reaches (cond (here && longer) (length context) longest)) rest) ≡ true
  attained_at context rest longest false longer e f behind some h = or_right _ _ (behind h)
  attained_at context rest longest true true e f behind some h =
      or_left _ _ (and_from _ _ (sym e) (not_from_false _ (le-ltb (length context) (length context) (omega arith))))
  attained_at context rest longest true false e f behind some h =
      elim (cases_Bool (ltb (length context) longest)) [
        | inl below ↦ or_right _ _ (behind (some below))
        | inr reached ↦ or_left _ _ (and_from _ _ (sym e) (not_from_false _ reached))
      ]

  attained : (contexts : List (List ℕ)) → list_any serves contexts ≡ true → list_any (reaches (longest_of contexts)) contexts ≡ true
  unfolding longest_of
  attained [] h = cc
  attained (context ∷ rest) h =
      attained_at context rest (longest_of rest) _ _ refl refl (attained rest)
      (λ below. weaken (λ other. serves other && ltb (length context) (length other)) serves (λ other e. (and_parts _ _ e).0) rest (longer_than (length context) rest ∙ below))
      h

pub chosen_where_served : (contexts : List (List ℕ)) (path : List ℕ) → list_any (is_chosen contexts path) contexts ≡ list_any (λ context. is_at_or_below context path) contexts
chosen_where_served contexts path =
    elim (cases_Bool (list_any (λ context. is_at_or_below context path) contexts)) [
      | inl e ↦ ap (λ test. list_any test contexts) (λ i context. same context i) ∙ attained path contexts e ∙ sym e
      | inr e ↦ false_from_ne_true _ (λ h. both_ways _ e (weaken (is_chosen contexts path) (λ context. is_at_or_below context path) (λ context f. (and_parts _ _ f).0) contexts h)) ∙ sym e
    ]
  where
    same : (context : List ℕ) → is_chosen contexts path context ≡ (is_at_or_below context path && not (ltb (length context) (longest_of path contexts)))
    same context = rw (longer_than path (length context) contexts) refl
