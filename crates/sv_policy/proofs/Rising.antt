-- Texts in byte order.
use Rattle.std.proofs.lemmas.Bool.{false≢true}
use Rattle.std.proofs.Common.{◌≡◌, ℕ, Bool, true, false, ◌||◌, List, [], ◌∷◌, refl, ap, sym, subst, ◌∙◌, Ordering, Less, Equal, Greater, nat_cmp, is_eq}
use Rattle.std.specs.Prelude.{fold}
use Rattle.std.specs.BTreeSet.{insert_key}
use Rattle.std.specs.Cmp.Lexicographic.{slice_cmp, nat_list_cmp_total}
use Rattle.std.specs.List.{AllByRecursion}
use Rattle.std.specs.List.Sorted.{IsStrictlySortedBy}
use Rattle.std.specs.Ordering.{match_ordering, ordering_reverse}
use Rattle.std.specs.Str.{bytes_eq}
use Rattle.std.proofs.lemmas.Map.Text.{is_eq-slice_cmp}
use Rattle.std.proofs.lemmas.Slice.Eq.{bytes_eq-Decides}
use Rattle.sv_constraints.specs.Covering.{lists}
use Rattle.sv_policy.specs.Uncovered.{rising}

abbrev cmp : List ℕ → List ℕ → Ordering
cmp = slice_cmp nat_cmp

abbrev Rises : List (List ℕ) → Type 0
Rises texts = IsStrictlySortedBy (slice_cmp nat_cmp) texts

-- All of the texts sort after this one.
abbrev Above : List ℕ → List (List ℕ) → Type 0
Above text texts = AllByRecursion (λ other. slice_cmp nat_cmp text other ≡ Less) texts

same_at : (x y : List ℕ) → cmp x y ≡ Equal → bytes_eq x y ≡ true
same_at x y e = sym (is_eq-slice_cmp x y) ∙ ap is_eq e

differs_at : (x y : List ℕ) → cmp x y ≡ Less → bytes_eq y x ≡ false
differs_at x y e = sym (is_eq-slice_cmp y x) ∙ ap is_eq (nat_list_cmp_total.antisymm y x ∙ ap ordering_reverse e)

above_through : (x y : List ℕ) (ys : List (List ℕ)) → cmp x y ≡ Less → Above y ys → Above x ys
above_through x y [] e above = tt
above_through x y (z ∷ ys) e above = (nat_list_cmp_total.trans x y z e above.0, above_through x y ys e above.1)

-- A text that sorts before all others differs from each of them.
pub absent_below : (x : List ℕ) (ys : List (List ℕ)) → Above x ys → lists ys x ≡ false
absent_below x [] above = refl
absent_below x (y ∷ ys) above = ap (λ b. b || lists ys x) (differs_at x y above.0) ∙ absent_below x ys above.1

above_with_at : (x k y : List ℕ) (ys put : List (List ℕ)) (at : Ordering) → cmp x k ≡ Less → cmp x y ≡ Less → Above x ys → Above x put → Above x (match_ordering at (k ∷ y ∷ ys) (y ∷ ys) (y ∷ put))
above_with_at x k y ys put Less e first above more = (e, (first, above))
above_with_at x k y ys put Equal e first above more = (first, above)
above_with_at x k y ys put Greater e first above more = (first, more)

above_with : (x k : List ℕ) (ys : List (List ℕ)) → cmp x k ≡ Less → Above x ys → Above x (insert_key cmp ys k)
above_with x k [] e above = (e, tt)
above_with x k (y ∷ ys) e above = above_with_at x k y ys (insert_key cmp ys k) (cmp k y) e above.0 above.1 (above_with x k ys e above.1)

put_rises_at : (y : List ℕ) (ys : List (List ℕ)) (k : List ℕ) (at : Ordering) → cmp k y ≡ at → Above y ys → Rises ys → Rises (insert_key cmp ys k) → Rises (match_ordering at (k ∷ y ∷ ys) (y ∷ ys) (y ∷ insert_key cmp ys k))
unfolding IsStrictlySortedBy
put_rises_at y ys k Less e above rises more = ((e, above_through k y ys e above), (above, rises))
put_rises_at y ys k Equal e above rises more = (above, rises)
put_rises_at y ys k Greater e above rises more = (above_with y k ys (nat_list_cmp_total.antisymm y k ∙ ap ordering_reverse e) above, more)

put_rises : (ys : List (List ℕ)) (k : List ℕ) → Rises ys → Rises (insert_key cmp ys k)
unfolding IsStrictlySortedBy
put_rises [] k rises = (tt, tt)
put_rises (y ∷ ys) k rises = put_rises_at y ys k (cmp k y) refl rises.0 rises.1 (put_rises ys k rises.1)

or_swap : (a b : Bool) → (a || b) ≡ (b || a)
or_swap true true = refl
or_swap true false = refl
or_swap false true = refl
or_swap false false = refl

or_assoc : (a b c : Bool) → (a || (b || c)) ≡ ((a || b) || c)
or_assoc true b c = refl
or_assoc false b c = refl

or_twice : (a b : Bool) → (a || b) ≡ ((a || b) || a)
or_twice true b = refl
or_twice false true = refl
or_twice false false = refl

put_lists_at : (y : List ℕ) (ys put : List (List ℕ)) (k text : List ℕ) (at : Ordering) → cmp k y ≡ at → lists put text ≡ (lists ys text || bytes_eq k text) → lists (match_ordering at (k ∷ y ∷ ys) (y ∷ ys) (y ∷ put)) text ≡ ((bytes_eq y text || lists ys text) || bytes_eq k text)
put_lists_at y ys put k text Less e more = or_swap (bytes_eq k text) (bytes_eq y text || lists ys text)
put_lists_at y ys put k text Equal e more =
    or_twice (bytes_eq y text) (lists ys text) ∙ ap (λ x. (bytes_eq y text || lists ys text) || bytes_eq x text) (sym ((bytes_eq-Decides k y).0 (same_at k y e)))
put_lists_at y ys put k text Greater e more = ap (λ b. bytes_eq y text || b) more ∙ or_assoc (bytes_eq y text) (lists ys text) (bytes_eq k text)

put_lists : (ys : List (List ℕ)) (k text : List ℕ) → lists (insert_key cmp ys k) text ≡ (lists ys text || bytes_eq k text)
put_lists [] k text = or_swap (bytes_eq k text) false
put_lists (y ∷ ys) k text = put_lists_at y ys (insert_key cmp ys k) k text (cmp k y) refl (put_lists ys k text)

rises_from : (kept texts : List (List ℕ)) → Rises kept → Rises (fold (insert_key cmp) kept texts)
rises_from kept [] rises = rises
rises_from kept (text ∷ texts) rises = rises_from (insert_key cmp kept text) texts (put_rises kept text rises)

lists_from : (kept texts : List (List ℕ)) (other : List ℕ) → lists (fold (insert_key cmp) kept texts) other ≡ (lists kept other || lists texts other)
lists_from kept [] other = or_swap false (lists kept other)
lists_from kept (text ∷ texts) other =
    lists_from (insert_key cmp kept text) texts other ∙ ap (λ b. b || lists texts other) (put_lists kept text other)
    ∙ sym (or_assoc (lists kept other) (bytes_eq text other) (lists texts other))

none_rise : Rises []
unfolding IsStrictlySortedBy
none_rise = tt

-- Sorted texts are strictly ascending, and are the same texts.
pub rising_rises : (texts : List (List ℕ)) → Rises (rising texts)
rising_rises texts = rises_from [] texts none_rise

pub rising_lists : (texts : List (List ℕ)) (other : List ℕ) → lists (rising texts) other ≡ lists texts other
rising_lists texts other = lists_from [] texts other

pub same_text : (x : List ℕ) → bytes_eq x x ≡ true
same_text x = (bytes_eq-Decides x x).1 refl

here : (x : List ℕ) (xs : List (List ℕ)) → lists (x ∷ xs) x ≡ true
here x xs = ap (λ b. b || lists xs x) (same_text x)

absent_from : (x y : List ℕ) (ys : List (List ℕ)) → cmp x y ≡ Less → Above y ys → lists (y ∷ ys) x ≡ false
absent_from x y ys e above = absent_below x (y ∷ ys) (e, above_through x y ys e above)

-- Strictly ascending lists of the same texts have the same first text.
heads_at : (x y : List ℕ) (xs ys : List (List ℕ)) (at : Ordering) → cmp x y ≡ at → Above x xs → Above y ys → ((text : List ℕ) → lists (x ∷ xs) text ≡ lists (y ∷ ys) text) → x ≡ y
heads_at x y xs ys Less e above_x above_y same = absurd (false≢true (sym (absent_from x y ys e above_y) ∙ sym (same x) ∙ here x xs))
heads_at x y xs ys Equal e above_x above_y same = (bytes_eq-Decides x y).0 (same_at x y e)
heads_at x y xs ys Greater e above_x above_y same =
    absurd (false≢true (sym (absent_from y x xs (nat_list_cmp_total.antisymm y x ∙ ap ordering_reverse e) above_x) ∙ same y ∙ here y ys))

tails_at : (x text : List ℕ) (xs ys : List (List ℕ)) (is : Bool) → bytes_eq x text ≡ is → Above x xs → Above x ys → (is || lists xs text) ≡ (is || lists ys text) → lists xs text ≡ lists ys text
tails_at x text xs ys true is above_xs above_ys same =
    let there : x ≡ text = (bytes_eq-Decides x text).0 is in
    ap (lists xs) (sym there) ∙ absent_below x xs above_xs ∙ sym (absent_below x ys above_ys) ∙ ap (lists ys) there
tails_at x text xs ys false is above_xs above_ys same = same

-- Strictly ascending lists of the same texts are equal.
pub rising_same : (xs ys : List (List ℕ)) → Rises xs → Rises ys → ((text : List ℕ) → lists xs text ≡ lists ys text) → xs ≡ ys
unfolding IsStrictlySortedBy
rising_same [] [] rises_x rises_y same = refl
rising_same [] (y ∷ ys) rises_x rises_y same = absurd (false≢true (same y ∙ here y ys))
rising_same (x ∷ xs) [] rises_x rises_y same = absurd (false≢true (sym (same x) ∙ here x xs))
rising_same (x ∷ xs) (y ∷ ys) rises_x rises_y same =
    let heads : x ≡ y = heads_at x y xs ys (cmp x y) refl rises_x.0 rises_y.0 same in
    ap (λ z. z ∷ xs) heads
    ∙ ap (λ zs. y ∷ zs) (rising_same xs ys rises_x.1 rises_y.1 (λ text. tails_at x text xs ys (bytes_eq x text) refl rises_x.0 (subst (λ z. Above z ys) (sym heads) rises_y.0)
    (same text ∙ ap (λ z. bytes_eq z text || lists ys text) (sym heads))))
