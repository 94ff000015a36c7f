-- Names that differ, checked one after another.
use Rattle.std.proofs.Common.{◌≡◌, ℕ, ◌+◌, ◌<◌, Bool, true, false, not, List, [], ◌∷◌, ◌++◌, map, length, get_or, take, drop, refl, sym, ap, ◌∙◌, zero, suc, Some, arith}
use Rattle.std.specs.Prelude.{◌||◌, if◌then◌else◌, slice_get}
use Rattle.std.specs.List.{Contains}
use Rattle.std.proofs.lemmas.Slice.Eq.{bytes_eq-Decides}
use Rattle.std.specs.Str.{bytes_eq}
use Rattle.std.proofs.lemmas.Cmp.{nat_list_eq_equiv}
use Rattle.std.proofs.lemmas.List.{take_more, take-append-drop, map-append}
use Rattle.std.proofs.lemmas.List.Folds.{list_any-append}
use Rattle.sv_descriptor.proofs.Lists.{drop-here}
use Rattle.sv_descriptor.specs.Table.{is_among}
use Rattle.sv_descriptor.specs.Names.{repeats, HaveSame, Differ, texts_before_repeat}

is_among-append : (xs ys : List (List ℕ)) (text : List ℕ) → is_among (xs ++ ys) text ≡ (is_among xs text || is_among ys text)
is_among-append xs ys text = list_any-append (λ other. bytes_eq other text) xs ys

or-parts : (a b c d : Bool) → ((a || (b || false)) || (c || d)) ≡ ((a || c) || (b || d))
or-parts true b c d = refl
or-parts false true true d = refl
or-parts false true false d = refl
or-parts false false c d = refl

-- One more text.
repeats-push : (xs : List (List ℕ)) (y : List ℕ) → repeats (xs ++ y ∷ []) ≡ (repeats xs || is_among xs y)
repeats-push [] y = refl
repeats-push (x ∷ xs) y =
    rw (is_among-append xs (y ∷ []) x, repeats-push xs y, nat_list_eq_equiv.symm y x) (or-parts (is_among xs x) (bytes_eq x y) (repeats xs) (is_among xs y))

or-both : (a b c d : Bool) → (b ≡ true → d ≡ true) → (a || b) ≡ true → ((a || c) || d) ≡ true
or-both true b c d f h = refl
or-both false true true d f h = refl
or-both false true false d f h = f refl
or-both false false c d f h = cc

-- If a text occurs twice, it still does after more texts are appended.
repeats-append : (xs ys : List (List ℕ)) → repeats xs ≡ true → repeats (xs ++ ys) ≡ true
repeats-append [] ys h = cc
repeats-append (x ∷ xs) ys h =
    rw (is_among-append xs ys x) (or-both (is_among xs x) (repeats xs) (is_among ys x) (repeats (xs ++ ys)) (repeats-append xs ys) h)

module _ {X : Type 0} (f : X → List ℕ) (items : List X) where
  -- The names of the items before an index.
  abbrev pub names_before : ℕ → List (List ℕ)
  names_before i = map f (take i items)

  names_before-more : (i : ℕ) (item : X) → i < length items → item ≡ get_or items i item → names_before (i + 1) ≡ names_before i ++ f item ∷ []
  names_before-more i item h at = ap (map f) (take_more items i item h) ∙ map-append f (take i items) _ ∙ ap (λ x. names_before i ++ f x ∷ []) (sym at)

  -- The set of the names so far, which differ.
  pub record Distinct (names : List (List ℕ)) (i : ℕ) : Type 0 where
    pub differ : repeats (names_before i) ≡ false
    pub same : HaveSame names (names_before i)

  -- The next name is not in the set.
  pub distinct-more : (names new : List (List ℕ)) (i : ℕ) (item : X) → i < length items → item ≡ get_or items i item
      → Distinct names i → HaveSame new (f item ∷ names) → is_among names (f item) ≡ false → Distinct new (i + 1)
  distinct-more names new i item h at before entered is_new =
      let more = names_before-more i item h at in
      record {
        differ = ap repeats more ∙ repeats-push (names_before i) (f item) ∙ rw (before.differ, ← before.same (f item)) is_new;
        same = λ text. entered text ∙ rw (more, is_among-append (names_before i) (f item ∷ []) text, before.same text) (or-back (bytes_eq (f item) text) (is_among (names_before i) text));
      }
    where
      or-back : (a b : Bool) → (a || b) ≡ (b || (a || false))
      or-back true true = refl
      or-back true false = refl
      or-back false true = refl
      or-back false false = refl

  -- The next name is in the set.
  pub repeats-found : (names : List (List ℕ)) (i : ℕ) (item : X) → i < length items → item ≡ get_or items i item
      → Distinct names i → is_among names (f item) ≡ true → repeats (map f items) ≡ true
  repeats-found names i item h at before found =
      let more = names_before-more i item h at in
      let repeated : repeats (names_before (i + 1)) ≡ true =
      ap repeats more ∙ repeats-push (names_before i) (f item) ∙ rw (before.differ, ← before.same (f item)) found in
      ap (λ xs. repeats (map f xs)) (sym (take-append-drop (i + 1) items))
      ∙ ap repeats (map-append f (take (i + 1) items) (drop (i + 1) items))
      ∙ repeats-append (names_before (i + 1)) (map f (drop (i + 1) items)) repeated

found-first : (a b : Bool) → (a || b) ≡ false → (a ≡ false) × (b ≡ false)
found-first true b h = cc
found-first false b h = (refl, h)

is_among-slice_get : (texts : List (List ℕ)) (j : ℕ) (text : List ℕ) → slice_get texts j ≡ Some text → is_among texts text ≡ true
is_among-slice_get [] j text h = cc
is_among-slice_get (x ∷ rest) zero text h = let same : x ≡ text = cc in rw (same, nat_list_eq_equiv.refl text) refl
is_among-slice_get (x ∷ rest) (suc j) text h = or-true (bytes_eq x text) (is_among rest text) (is_among-slice_get rest j text h)
  where
    or-true : (a b : Bool) → b ≡ true → (a || b) ≡ true
    or-true true b h = refl
    or-true false b h = h

-- If no text occurs twice, the texts differ at any two indices.
pub Differ-repeats : (texts : List (List ℕ)) → repeats texts ≡ false → Differ texts
Differ-repeats [] h i j lt l same = omega arith
Differ-repeats (x ∷ rest) h zero zero lt l same = omega arith
Differ-repeats (x ∷ rest) h zero (suc j) lt l same =
    let (unique, others) = found-first (is_among rest x) (repeats rest) h in
    let found = is_among-slice_get rest j x (sym same) in cc
Differ-repeats (x ∷ rest) h (suc i) zero lt l same = omega arith
Differ-repeats (x ∷ rest) h (suc i) (suc j) lt l same =
    let (unique, others) = found-first (is_among rest x) (repeats rest) h in
    Differ-repeats rest others i j (omega arith) (omega arith) same

-- Only the texts known matter, and not their order.
pub texts_before_repeat-same : (known others texts : List (List ℕ)) → HaveSame known others → texts_before_repeat known texts ≡ texts_before_repeat others texts
texts_before_repeat-same known others [] h = refl
texts_before_repeat-same known others (text ∷ rest) h =
    ap (λ b. if b then 0 else texts_before_repeat (text ∷ known) rest + 1) (h text)
    ∙ ap (λ n. if is_among others text then 0 else n + 1) (texts_before_repeat-same (text ∷ known) (text ∷ others) rest (λ other. ap (λ b. bytes_eq text other || b) (h other)))

-- The next text is a new one.
pub texts_before_repeat-next : {X : Type 0} (f : X → List ℕ) (items : List X) (names new : List (List ℕ)) (i : ℕ) (item : X) → i < length items → item ≡ get_or items i item
    → HaveSame new (f item ∷ names) → is_among names (f item) ≡ false → texts_before_repeat names (map f (drop i items)) ≡ texts_before_repeat new (map f (drop (i + 1) items)) + 1
texts_before_repeat-next f items names new i item below at entered is_new =
    rw (drop-here items i item below at, is_new) (ap (λ n. n + 1) (sym (texts_before_repeat-same new (f item ∷ names) (map f (drop (i + 1) items)) entered)))

pub not-back : (a b c : Bool) → a ≡ c → a ≡ not b → b ≡ not c
not-back true true c e h = cc
not-back true false c e h = rw (sym e) refl
not-back false true c e h = rw (sym e) refl
not-back false false c e h = cc

-- A name in a list is at some index.
pub Contains-is_among : (texts : List (List ℕ)) (text : List ℕ) → is_among texts text ≡ true → Contains texts text
Contains-is_among [] text h = cc
Contains-is_among (x ∷ rest) text h = at (bytes_eq x text) refl h (Contains-is_among rest text)
  where
    at : (b : Bool) → bytes_eq x text ≡ b → (b || is_among rest text) ≡ true → (is_among rest text ≡ true → Contains rest text) → Contains (x ∷ rest) text
    at true e h later = (0, omega arith, (bytes_eq-Decides x text).0 e)
    at false e h later = let (k, l, same) = later h in (suc k, omega arith, same)
