-- Sets of names, compared with lists of names.
use Rattle.std.proofs.Common.{◌≡◌, ℕ, Bool, true, false, List, [], ◌∷◌, map, refl, sym, ap, ◌∙◌, Bor, Ordering, Less, Equal, Greater, nat_cmp}
use Rattle.std.specs.Prelude.{◌||◌}
use Rattle.std.specs.List.{list_any}
use Rattle.std.specs.Ordering.{is_eq, match_ordering}
use Rattle.std.specs.Str.{bytes_eq}
use Rattle.std.specs.BTreeMap.{is_at}
use Rattle.std.specs.BTreeSet.{insert_key}
use Rattle.std.specs.Cmp.Lexicographic.{slice_cmp}
use Rattle.std.proofs.lemmas.Map.Text.{is_eq-slice_cmp}
use Rattle.std.proofs.lemmas.Cmp.{nat_list_eq_equiv}
use Rattle.std.proofs.lemmas.Slice.Eq.{bytes_eq-Decides}
use Rattle.sv_descriptor.specs.Table.{is_among}

abbrev pub Name : Type 0
Name = Bor (List ℕ)

-- The order of names.
abbrev pub name_cmp : Name → Name → Ordering
name_cmp a b = slice_cmp nat_cmp a.now b.now

abbrev pub seen : List Name → List (List ℕ)
seen names = map (λ name. name.now) names

-- A set has a name exactly if the name is among its keys.
pub list_any-is_at : (text : List ℕ) (names : List Name) → list_any (is_at (λ name. slice_cmp nat_cmp text name.now)) names ≡ is_among (seen names) text
list_any-is_at text [] = refl
list_any-is_at text (x ∷ names) = rw (is_eq-slice_cmp text x.now, nat_list_eq_equiv.symm text x.now, list_any-is_at text names) refl

or-twice : (a b c : Bool) → a ≡ b → (a || c) ≡ (b || (a || c))
or-twice true true c h = refl
or-twice true false c h = cc
or-twice false true c h = cc
or-twice false false c h = refl

or-swap : (a b c : Bool) → (a || (b || c)) ≡ (b || (a || c))
or-swap true true c = refl
or-swap true false c = refl
or-swap false true c = refl
or-swap false false c = refl

same_name : (a b : List ℕ) → slice_cmp nat_cmp a b ≡ Equal → a ≡ b
same_name a b h = (bytes_eq-Decides a b).0 (sym (is_eq-slice_cmp a b) ∙ ap is_eq h)

-- The names after an insertion.
inserted_at : (o : Ordering) (name x : Name) (names : List Name) (text : List ℕ) → slice_cmp nat_cmp name.now x.now ≡ o
    → is_among (seen (insert_key name_cmp names name)) text ≡ (bytes_eq name.now text || is_among (seen names) text)
    → is_among (seen (match_ordering o (name ∷ x ∷ names) (x ∷ names) (x ∷ insert_key name_cmp names name))) text
    ≡ (bytes_eq name.now text || is_among (seen (x ∷ names)) text)
inserted_at Less name x names text same ih = refl
inserted_at Equal name x names text same ih = or-twice _ _ _ (ap (λ t. bytes_eq t text) (sym (same_name name.now x.now same)))
inserted_at Greater name x names text same ih = rw ih (or-swap (bytes_eq x.now text) (bytes_eq name.now text) (is_among (seen names) text))

pub is_among-insert_key : (name : Name) (names : List Name) (text : List ℕ)
    → is_among (seen (insert_key name_cmp names name)) text ≡ (bytes_eq name.now text || is_among (seen names) text)
is_among-insert_key name [] text = refl
is_among-insert_key name (x ∷ names) text = inserted_at (name_cmp name x) name x names text refl (is_among-insert_key name names text)
