-- The effect of dot segments on the names before them.
use Rattle.std.proofs.Common.{ℕ, suc, ◌≡◌, ◌+◌, ◌-◌, ◌<◌, ◌≤◌, true, false, ◌||◌, ltb, List, [], ◌∷◌, ◌++◌, length, take, take_all, Option, Some, sym, refl, ap, ◌∙◌, ⊎_elim, arith, zero, not, cond, Bool, eqb, append-nil, map, length-append, None, IsSome, is_some, ◌↔◌}
use Rattle.std.specs.List.{All, last_or, count_by}
use Rattle.std.proofs.lemmas.Bool.{false≢true, cases_Bool, cond-true, cond-false, cond_both, or_parts, lt-ltb, le-ltb, or_left, or_right, or_from, cases_lt, ltb-true, not_from_true, not_from_false, not-true, not-false, ne_eqb}
use Rattle.std.proofs.lemmas.List.Elements.{All-nil, All-cons, All-head, All-tail, filter-append}
use Rattle.sv_uri.specs.Segment.{is_parent}
use Rattle.sv_uri.specs.DotSegments.{removed_in_front, remaining, is_idle, kept, climbs}
use Rattle.std.proofs.lemmas.List.Sums.{sum_by-cons}
use Rattle.sv_uri.specs.Laws.{ClimbsByFronts}
use Rattle.std.proofs.lemmas.Bool.Decides.{nat_tests}
use Rattle.std.specs.Option.{option_to_list}
use Rattle.std.proofs.lemmas.List.{map-append, take_at}
use Rattle.std.proofs.lemmas.Slice.Eq.{bytes_eq-Decides}
use Rattle.sv_uri.specs.Walked.{IsLeftOf}

-- One more segment at the front.
pub removed-parent : (name : List ℕ) (rest : List (List ℕ)) → is_parent name ≡ true → removed_in_front (name ∷ rest) ≡ removed_in_front rest + 1
removed-parent name rest parent = cond-true _ _ _ parent

pub removed-name : (name : List ℕ) (rest : List (List ℕ)) → is_parent name ≡ false → removed_in_front (name ∷ rest) ≡ removed_in_front rest - 1
removed-name name rest other = cond-false _ _ _ other

pub remaining-parent : (name : List ℕ) (rest : List (List ℕ)) → is_parent name ≡ true → remaining (name ∷ rest) ≡ remaining rest
remaining-parent name rest parent = cond-true _ _ _ (or_left _ _ parent)

pub remaining-removed : (name : List ℕ) (rest : List (List ℕ)) → 0 < removed_in_front rest → remaining (name ∷ rest) ≡ remaining rest
remaining-removed name rest removed = cond-true _ _ _ (or_right (is_parent name) _ (lt-ltb 0 _ removed))

pub remaining-kept : (name : List ℕ) (rest : List (List ℕ)) → is_parent name ≡ false → removed_in_front rest ≤ 0 → remaining (name ∷ rest) ≡ name ∷ remaining rest
remaining-kept name rest other unremoved = cond-false _ _ _ (or_from _ _ other (le-ltb 0 _ unremoved))

-- The `..` of the last segments remove names that remain of the first segments, and then names before these.
pub removed-append : (names more : List (List ℕ)) → removed_in_front (names ++ more) ≡ removed_in_front names + (removed_in_front more - length (remaining names))
removed-append [] more = omega arith
removed-append (name ∷ rest) more =
    let before = removed-append rest more in
    ⊎_elim
    (λ parent. rw (removed-parent name (rest ++ more) parent, removed-parent name rest parent, remaining-parent name rest parent, before) (omega arith))
    (λ other.
    ⊎_elim
    (λ removed. rw (removed-name name (rest ++ more) other, removed-name name rest other, remaining-removed name rest removed, before) (omega arith))
    (λ unremoved. rw (removed-name name (rest ++ more) other, removed-name name rest other, remaining-kept name rest other unremoved, before) (omega arith))
    (cases_lt 0 (removed_in_front rest)))
    (cases_Bool (is_parent name))

pub remaining-append : (names more : List (List ℕ)) → remaining (names ++ more) ≡ take (length (remaining names) - removed_in_front more) (remaining names) ++ remaining more
remaining-append [] more = ap (λ xs. xs ++ remaining more) (sym (take_all _ [] (omega arith)))
remaining-append (name ∷ rest) more =
    let before = remaining-append rest more in
    let removed_by = removed-append rest more in
    ⊎_elim
    (λ parent. rw (remaining-parent name (rest ++ more) parent, remaining-parent name rest parent) before)
    (λ other.
    ⊎_elim
    (λ removed.
    let still : 0 < removed_in_front (rest ++ more) = omega arith in
    rw (remaining-removed name (rest ++ more) still, remaining-removed name rest removed) before)
    (λ unremoved.
    ⊎_elim
    (λ reaches.
    let still : 0 < removed_in_front (rest ++ more) = omega arith in
    let none : length (remaining rest) - removed_in_front more ≡ 0 = omega arith in
    let none_more : suc (length (remaining rest)) - removed_in_front more ≡ 0 = omega arith in
    rw (remaining-removed name (rest ++ more) still, remaining-kept name rest other unremoved, none_more) (rw none at before))
    (λ within.
    let still : removed_in_front (rest ++ more) ≤ 0 = omega arith in
    let one_more : suc (length (remaining rest)) - removed_in_front more ≡ suc (length (remaining rest) - removed_in_front more) = omega arith in
    rw (remaining-kept name (rest ++ more) other still, remaining-kept name rest other unremoved, one_more) (ap (λ xs. name ∷ xs) before))
    (cases_lt (length (remaining rest)) (removed_in_front more)))
    (cases_lt 0 (removed_in_front rest)))
    (cases_Bool (is_parent name))

-- A property of all names holds for the remaining names, and none of these is `..`.
pub All-remaining : (P : List ℕ → Type 0) (names : List (List ℕ)) → All P names → All P (remaining names)
All-remaining P [] all = all
All-remaining P (name ∷ rest) all =
    let behind = All-remaining P rest (All-tail P name rest all) in
    cond_both (is_parent name || ltb 0 (removed_in_front rest)) (remaining rest) (name ∷ remaining rest) (All P)
    (λ _. behind) (λ _. All-cons P name (remaining rest) (All-head P name rest all) behind)

abbrev pub IsName : List ℕ → Type 0
IsName name = is_parent name ≡ false

pub All-IsName-remaining : (names : List (List ℕ)) → All IsName (remaining names)
All-IsName-remaining [] = All-nil IsName
All-IsName-remaining (name ∷ rest) =
    let behind = All-IsName-remaining rest in
    cond_both (is_parent name || ltb 0 (removed_in_front rest)) (remaining rest) (name ∷ remaining rest) (All IsName)
    (λ _. behind) (λ kept. All-cons IsName name (remaining rest) ((or_parts _ _ kept).0) behind)

-- Names without `..` all remain.
pub unremoved : (names : List (List ℕ)) → All IsName names → (removed_in_front names ≡ 0) × (remaining names ≡ names)
unremoved [] all = (refl, refl)
unremoved (name ∷ rest) all =
    let other = All-head IsName name rest all in
    let behind = unremoved rest (All-tail IsName name rest all) in
    (removed-name name rest other ∙ rw behind.0 refl, remaining-kept name rest other (omega arith) ∙ ap (λ xs. name ∷ xs) behind.1)

-- The last of a list.
pub last_or-push : (names : List (List ℕ)) (o : Option (List ℕ)) (name : List ℕ) → last_or o (names ++ name ∷ []) ≡ Some name
last_or-push [] o name = refl
last_or-push (first ∷ rest) o name = last_or-push rest (Some first) name

abbrev parents : List (List ℕ) → ℕ
parents names = count_by is_parent names

abbrev others : List (List ℕ) → ℕ
others names = count_by (λ name. not (is_parent name)) names

parents-parent : (name : List ℕ) (rest : List (List ℕ)) → is_parent name ≡ true → (parents (name ∷ rest) ≡ parents rest + 1) × (others (name ∷ rest) ≡ others rest)
parents-parent name rest parent =
    let one = cond-true {A = ℕ} (is_parent name) 1 0 parent in
    let none = cond-false {A = ℕ} (not (is_parent name)) 1 0 (not_from_true _ parent) in
    (rw (sum_by-cons (λ n. cond (is_parent n) 1 0) name rest, one) (omega arith), rw (sum_by-cons (λ n. cond (not (is_parent n)) 1 0) name rest, none) (omega arith))

parents-name : (name : List ℕ) (rest : List (List ℕ)) → is_parent name ≡ false → (parents (name ∷ rest) ≡ parents rest) × (others (name ∷ rest) ≡ others rest + 1)
parents-name name rest other =
    let none = cond-false {A = ℕ} (is_parent name) 1 0 other in
    let one = cond-true {A = ℕ} (not (is_parent name)) 1 0 (not_from_false _ other) in
    (rw (sum_by-cons (λ n. cond (is_parent n) 1 0) name rest, none) (omega arith), rw (sum_by-cons (λ n. cond (not (is_parent n)) 1 0) name rest, one) (omega arith))

-- In some front, the `..` exceed the other names by the number of names that the segments remove before themselves.
reached : (names : List (List ℕ)) → (n : ℕ) × (removed_in_front names + others (take n names) ≤ parents (take n names))
reached [] = (0, omega arith)
reached (name ∷ rest) =
    let (n, before) = reached rest in
    ⊎_elim
    (λ parent.
    let counts = parents-parent name (take n rest) parent in
    (suc n, rw (removed-parent name rest parent) (omega arith)))
    (λ other.
    ⊎_elim
    (λ (removed : 0 < removed_in_front rest).
    let counts = parents-name name (take n rest) other in
    (suc n, rw (removed-name name rest other) (omega arith)))
    (λ (unremoved : removed_in_front rest ≤ 0). (0, rw (removed-name name rest other) (omega arith)))
    (cases_lt 0 (removed_in_front rest)))
    (cases_Bool (is_parent name))

-- No front has a greater excess.
bounded : (names : List (List ℕ)) (n : ℕ) → parents (take n names) ≤ others (take n names) + removed_in_front names
bounded names zero = omega arith
bounded [] (suc n) = omega arith
bounded (name ∷ rest) (suc n) =
    let before = bounded rest n in
    ⊎_elim
    (λ parent.
    let counts = parents-parent name (take n rest) parent in
    rw (removed-parent name rest parent) (omega arith))
    (λ other.
    let counts = parents-name name (take n rest) other in
    rw (removed-name name rest other) (omega arith))
    (cases_Bool (is_parent name))

pub climbs_by_fronts : ClimbsByFronts
climbs_by_fronts names =
    (λ climbed. let (n, front) = reached names in let removed = ltb-true 0 _ climbed in (n, omega arith), λ (n, front). let bound = bounded names n in lt-ltb 0 _ (omega arith))

-- `..` is neither empty nor `.`.
parent_is_not_idle : (name : List ℕ) → is_parent name ≡ true → is_idle name ≡ false
parent_is_not_idle name parent =
    let same : name ≡ 46 ∷ 46 ∷ [] = (bytes_eq-Decides name (46 ∷ 46 ∷ [])).0 parent in
    rw same refl

kept-idle : (seen : List (List ℕ)) (name : List ℕ) → is_idle name ≡ true → kept (seen ++ name ∷ []) ≡ kept seen
kept-idle seen name idle =
    filter-append _ seen (name ∷ []) ∙ ap (λ xs. kept seen ++ xs) (cond-false _ _ _ (not_from_true _ idle)) ∙ append-nil (kept seen)

kept-other : (seen : List (List ℕ)) (name : List ℕ) → is_idle name ≡ false → kept (seen ++ name ∷ []) ≡ kept seen ++ name ∷ []
kept-other seen name other =
    filter-append _ seen (name ∷ []) ∙ ap (λ xs. kept seen ++ xs) (cond-true _ _ _ (not_from_false _ other))

-- An idle segment changes no name and leaves the path open.
pub IsLeftOf-idle : (names : List (List ℕ)) (climbed open_end : Bool) (seen : List (List ℕ)) (name : List ℕ) → is_idle name ≡ true → IsLeftOf names climbed open_end seen → IsLeftOf names climbed true (seen ++ name ∷ [])
IsLeftOf-idle names climbed open_end seen name idle before =
    let same = kept-idle seen name idle in
    record {
      left = before.left ∙ ap remaining (sym same);
      climbed_by = before.climbed_by ∙ ap climbs (sym same);
      opened_by = rw (last_or-push seen None name, idle) refl;
    }

-- A name is added.
pub IsLeftOf-name : (names : List (List ℕ)) (climbed open_end : Bool) (seen : List (List ℕ)) (name : List ℕ) → is_parent name ≡ false → is_idle name ≡ false → IsLeftOf names climbed open_end seen → IsLeftOf (names ++ name ∷ []) climbed false (seen ++ name ∷ [])
IsLeftOf-name names climbed open_end seen name other busy before =
    let same = kept-other seen name busy in
    let nothing : removed_in_front (name ∷ []) ≡ 0 = removed-name name [] other in
    let itself : remaining (name ∷ []) ≡ name ∷ [] = remaining-kept name [] other (omega arith) in
    let all : take (length (remaining (kept seen)) - removed_in_front (name ∷ [])) (remaining (kept seen)) ≡ remaining (kept seen) = take_all _ _ (omega arith) in
    let count : removed_in_front (kept seen ++ name ∷ []) ≡ removed_in_front (kept seen) = rw (removed-append (kept seen) (name ∷ []), nothing) (omega arith) in
    record {
      left = rw (same, remaining-append (kept seen) (name ∷ []), all, itself, before.left) refl;
      climbed_by = rw (same, count) before.climbed_by;
      opened_by = rw (last_or-push seen None name, other, busy) refl;
    }

climbs_more : (removed left : ℕ) → ltb 0 (removed + (1 - left)) ≡ (ltb 0 removed || eqb left 0)
climbs_more removed left = grind (arith, nat_tests)

-- `..` removes the last name, or climbs.
pub IsLeftOf-parent : (names left : List (List ℕ)) (climbed none open_end : Bool) (seen : List (List ℕ)) (name : List ℕ) → is_parent name ≡ true → left ≡ take (length names - 1) names → none ≡ eqb (length names) 0 → IsLeftOf names climbed open_end seen → IsLeftOf left (climbed || none) true (seen ++ name ∷ [])
IsLeftOf-parent names left climbed none open_end seen name parent shorter empty before =
    let same = kept-other seen name (parent_is_not_idle name parent) in
    let one : removed_in_front (name ∷ []) ≡ 1 = removed-parent name [] parent in
    let nothing : remaining (name ∷ []) ≡ [] = remaining-parent name [] parent in
    record {
      left = shorter ∙ rw (same, remaining-append (kept seen) (name ∷ []), one, nothing, append-nil (take (length (remaining (kept seen)) - 1) (remaining (kept seen))), before.left) refl;
      climbed_by = rw (same, removed-append (kept seen) (name ∷ []), one, climbs_more (removed_in_front (kept seen)) (length (remaining (kept seen))), before.climbed_by, empty, before.left) refl;
      opened_by = rw (last_or-push seen None name, parent, parent_is_not_idle name parent) refl;
    }

emptied : {X : Type 0} (xs : List X) → (0 < length xs → ⊥) → xs ≡ []
emptied [] never = refl
emptied (x ∷ xs) never = absurd (never (omega arith))

-- A list after its last item was removed.
pub popped : {X Y : Type 0} (f : X → Y) (before after : List X) (item : Option X) (none : Bool) → before ≡ after ++ option_to_list item → after ≡ take (length before - 1) before → IsSome item ↔ (0 < length before) → is_some item ≡ not none → (map f after ≡ take (length (map f before) - 1) (map f before)) × (none ≡ eqb (length (map f before)) 0)
popped f before after None none whole rest count said =
    let nothing : before ≡ [] = emptied before (λ some. false≢true (count.1 some)) in
    let empty : after ≡ [] = rest ∙ rw nothing refl in
    rw (nothing, empty) (refl, not-false _ (sym said))
popped f before after (Some x) none whole rest count said =
    let front : map f before ≡ map f after ++ f x ∷ [] = rw whole (map-append f after (x ∷ [])) in
    let long : length (map f before) ≡ length (map f after) + 1 = ap length front ∙ length-append (map f after) (f x ∷ []) in
    let one_less : length (map f before) - 1 ≡ length (map f after) = omega arith in
    let kept_front : take (length (map f before) - 1) (map f before) ≡ map f after = rw (one_less, front) (take_at (map f after) (f x ∷ []) (length (map f after)) refl) in
    (sym kept_front, not-true _ (sym said) ∙ sym (ne_eqb _ _ (λ (zero_long : length (map f before) ≡ 0). omega arith)))
