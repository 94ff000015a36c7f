-- Tables are stored in the order of their patterns.
use Rattle.std.proofs.Common.{subst, ◌≡◌, ℕ, ◌+◌, ◌<◌, zero, suc, List, [], ◌∷◌, ◌++◌, length, take, get_or, map, refl, ap, sym, ◌∙◌, Ordering, Less, Equal, Greater, nat_cmp, is_eq, arith}
use Rattle.std.specs.Borrow.{Bor}
use Rattle.std.specs.Prelude.{All, Contains}
use Rattle.std.specs.BTreeMap.{insert_entry}
use Rattle.std.specs.BTreeSet.{insert_key}
use Rattle.std.specs.Cmp.Lexicographic.{slice_cmp}
use Rattle.std.specs.List.{AllByRecursion}
use Rattle.std.specs.Ordering.{match_ordering}
use Rattle.std.proofs.lemmas.List.{map-append}
use Rattle.std.proofs.lemmas.List.Elements.{All-cons}
use Rattle.std.proofs.lemmas.List.Sums.{fold-append}
use Rattle.std.proofs.lemmas.Map.Text.{is_eq-slice_cmp}
use Rattle.std.proofs.lemmas.Slice.Eq.{bytes_eq-Decides}
use Rattle.sv_policy.specs.Uncovered.{rising}
use Rattle.sv_policy.specs.declared.table.Table.{Table}
use Rattle.sv_policy.proofs.Whole.{all_none}
use Rattle.sv_policy.specs.Filed.{IsFiled}
use Rattle.sv_policy.proofs.Steps.{seen_more}

abbrev Entry : Type 0
Entry = Bor (List ℕ) × Bor Table

abbrev by_text : Bor (List ℕ) → Bor (List ℕ) → Ordering
by_text x y = slice_cmp nat_cmp x.now y.now

keys_at : (k : Bor (List ℕ)) (v : Bor Table) (e : Entry) (es put : List Entry) (keys : List (List ℕ)) (at : Ordering) → map (λ x. x.0.now) put ≡ keys → map (λ x. x.0.now) (match_ordering at ((k, v) ∷ e ∷ es) ((e.0, v) ∷ es) (e ∷ put)) ≡ match_ordering at (k.now ∷ e.0.now ∷ map (λ x. x.0.now) es) (e.0.now ∷ map (λ x. x.0.now) es) (e.0.now ∷ keys)
keys_at k v e es put keys Less is = refl
keys_at k v e es put keys Equal is = refl
keys_at k v e es put keys Greater is = ap (λ rest. e.0.now ∷ rest) is

-- The texts of the keys after one more.
keys_put : (k : Bor (List ℕ)) (v : Bor Table) (es : List Entry) → map (λ x. x.0.now) (insert_entry by_text es k v) ≡ insert_key (slice_cmp nat_cmp) (map (λ x. x.0.now) es) k.now
keys_put k v [] = refl
keys_put k v (e ∷ es) = keys_at k v e es (insert_entry by_text es k v) (insert_key (slice_cmp nat_cmp) (map (λ x. x.0.now) es) k.now) (by_text k e.0) (keys_put k v es)

module _ (P : Entry → Type 0) (k : Bor (List ℕ)) (v : Bor Table) (new : P (k, v)) (kept : (e : Entry) → k.now ≡ e.0.now → P (e.0, v)) where
  all_at : (e : Entry) (es put : List Entry) (at : Ordering) → by_text k e.0 ≡ at → P e → AllByRecursion P es → AllByRecursion P put → AllByRecursion P (match_ordering at ((k, v) ∷ e ∷ es) ((e.0, v) ∷ es) (e ∷ put))
  all_at e es put Less is first rest more = (new, (first, rest))
  all_at e es put Equal is first rest more = (kept e ((bytes_eq-Decides k.now e.0.now).0 (sym (is_eq-slice_cmp k.now e.0.now) ∙ ap is_eq is)), rest)
  all_at e es put Greater is first rest more = (first, more)

  -- A property of all entries holds after adding one that has it.
  all_put : (es : List Entry) → AllByRecursion P es → AllByRecursion P (insert_entry by_text es k v)
  all_put [] all = (new, tt)
  all_put (e ∷ es) all = all_at e es (insert_entry by_text es k v) (by_text k e.0) refl all.0 all.1 (all_put es all.1)

filed_more : (all before : List Table) (es : List Entry) (k : Bor (List ℕ)) (v : Bor Table) (table : Table) → IsFiled all before es → k.now ≡ table.pattern → v.now ≡ table → Contains all table → IsFiled all (before ++ table ∷ []) (insert_entry by_text es k v)
filed_more all before es k v table is text same there = record {
  texts = keys_put k v es
      ∙ ap (λ keys. insert_key (slice_cmp nat_cmp) keys k.now) is.texts
      ∙ ap (insert_key (slice_cmp nat_cmp) (rising (map (λ t. t.pattern) before))) text
      ∙ sym (ap rising (map-append (λ t. t.pattern) before (table ∷ [])) ∙ fold-append (insert_key (slice_cmp nat_cmp)) [] (map (λ t. t.pattern) before) (table.pattern ∷ []));
  keyed = all_put (λ e. e.1.now.pattern ≡ e.0.now) k v (ap (λ t. t.pattern) same ∙ sym text) (λ e key. ap (λ t. t.pattern) same ∙ sym text ∙ key) es is.keyed;
  among = all_put (λ e. Contains all e.1.now) k v (subst (Contains all) (sym same) there) (λ e key. subst (Contains all) (sym same) there) es is.among;
}

pub at_map : {A X : Type 0} (f : A → X) (xs : List A) (i : ℕ) (x : A) → i < length xs → get_or (map f xs) i (f x) ≡ f (get_or xs i x)
at_map f [] i x within = let impossible : ⊥ = omega (arith, within) in absurd impossible
at_map f (y ∷ xs) zero x within = refl
at_map f (y ∷ xs) (suc i) x within = at_map f xs i x (omega (arith, within))

pub length_map : {A X : Type 0} (f : A → X) (xs : List A) → length (map f xs) ≡ length xs
length_map f [] = refl
length_map f (x ∷ xs) = let below : length (map f xs) ≡ length xs = length_map f xs in grind (arith, below)

-- The next table of a loop is stored.
pub filed_next : {A : Type 0} (value : A → Table) (tables : List A) (i : ℕ) (x : A) (before after : List Entry) (k : Bor (List ℕ)) (v : Bor Table) → i < length tables → x ≡ get_or tables i x → IsFiled (map value tables) (map value (take i tables)) before
    → k.now ≡ (value x).pattern → v.now ≡ value x → after ≡ insert_entry by_text before k v → IsFiled (map value tables) (map value (take (i + 1) tables)) after
filed_next value tables i x before after k v within at_i is text same put =
    subst (λ taken. IsFiled (map value tables) taken after) (sym (seen_more value tables i x within at_i))
    (subst (IsFiled (map value tables) (map value (take i tables) ++ value x ∷ [])) (sym put)
    (filed_more (map value tables) (map value (take i tables)) before k v (value x) is text same
    (i, (let same_length : length (map value tables) ≡ length tables = length_map value tables in omega (arith, within, same_length)), at_map value tables i x within ∙ ap value (sym at_i))))

pub none_filed : (all : List Table) → IsFiled all [] []
none_filed all = record { texts = refl; keyed = tt; among = tt }

values_texts : (es : List Entry) → AllByRecursion (λ e. e.1.now.pattern ≡ e.0.now) es → map (λ t. t.now.pattern) (map (λ e. e.1) es) ≡ map (λ e. e.0.now) es
values_texts [] keyed = refl
values_texts (e ∷ es) keyed = ap (λ p. p ∷ map (λ t. t.now.pattern) (map (λ x. x.1) es)) keyed.0 ∙ ap (λ rest. e.0.now ∷ rest) (values_texts es keyed.1)

-- The tables are in ascending order of their patterns.
pub ordered_texts : (all tables : List Table) (es : List Entry) (ordered : List (Bor Table)) → IsFiled all tables es → ordered ≡ map (λ e. e.1) es → map (λ t. t.now.pattern) ordered ≡ rising (map (λ t. t.pattern) tables)
ordered_texts all tables es ordered is are = ap (map (λ t. t.now.pattern)) are ∙ values_texts es is.keyed ∙ is.texts

values_among : (all : List Table) (es : List Entry) → AllByRecursion (λ e. Contains all e.1.now) es → All (λ t. Contains all t.now) (map (λ e. e.1) es)
values_among all [] among = all_none (λ t. Contains all t.now)
values_among all (e ∷ es) among = All-cons (λ t. Contains all t.now) e.1 (map (λ x. x.1) es) among.0 (values_among all es among.1)

pub ordered_among : (all tables : List Table) (es : List Entry) (ordered : List (Bor Table)) → IsFiled all tables es → ordered ≡ map (λ e. e.1) es → All (λ t. Contains all t.now) ordered
ordered_among all tables es ordered is are = subst (All (λ t. Contains all t.now)) (sym are) (values_among all es is.among)
