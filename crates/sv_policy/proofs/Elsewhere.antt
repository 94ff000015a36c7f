-- Tables of patterns other than the edited ones are unchanged.
use Rattle.std.proofs.Common.{arith, subst, ◌≡◌, ℕ, zero, suc, ◌+◌, ◌<◌, Bool, true, false, not, ◌||◌, ◌&&◌, List, [], ◌∷◌, ◌++◌, length, take, get_or, map, refl, ap, ap₂, sym, ◌∙◌, cond, ◌==◌}
use Rattle.std.specs.Borrow.{Bor}
use Rattle.std.specs.Prelude.{All, filter, remove}
use Rattle.std.specs.List.{list_any}
use Rattle.std.specs.Str.{bytes_eq}
use Rattle.std.proofs.lemmas.List.{map-append}
use Rattle.std.proofs.lemmas.List.Elements.{All-cons}
use Rattle.std.proofs.lemmas.List.Folds.{list_any-append}
use Rattle.sv_constraints.specs.Covering.{all_patterns, covers, lists}
use Rattle.sv_constraints.specs.declared.constraint.Constraint.{Constraint}
use Rattle.sv_constraints.specs.declared.constraint.Rules.{Rules}
use Rattle.sv_policy.specs.Merged.{IsMerged}
use Rattle.sv_policy.specs.Entries.{entry_for}
use Rattle.sv_policy.specs.Table.{IsTable}
use Rattle.sv_policy.specs.declared.table.Table.{Table}
use Rattle.sv_policy.proofs.Listed.{any_seen, covers_listed, different_lists, filter_within, listed_any, listed_by, some_filtered}
use Rattle.sv_policy.proofs.Filing.{length_map}
use Rattle.sv_policy.proofs.Whole.{all_none, seen_twice}
use Rattle.sv_policy.specs.Compiled.{AreCompiled}
use Rattle.sv_policy.specs.Patterns.{different, listed_in, lists_pattern}
use Rattle.sv_policy.specs.Rebuilt.{AreSameElsewhere}
use Rattle.sv_policy.proofs.Steps.{filter_pass, filter_stop, passing_lists, seen_more}

-- ---- Adding or removing a constraint does not affect other patterns.
pub same_with : (constraints : List Constraint) (added : Constraint) → AreSameElsewhere constraints (constraints ++ added ∷ []) (listed_in added.collections)
same_with constraints added = λ text absent. sym (filter_stop (λ c. lists_pattern c text) constraints added (sym (listed_by text added) ∙ absent))

filter_here : {X : Type 0} (test : X → Bool) (x : X) (xs : List X) → test x ≡ false → filter test (x ∷ xs) ≡ filter test xs
filter_here test x xs stops = ap (λ b. cond b (x ∷ filter test xs) (filter test xs)) stops

-- Removing an item that does not pass a test does not change the filtered list.
filter_without : {X : Type 0} (test : X → Bool) (xs : List X) (k : ℕ) (x : X) → k < length xs → x ≡ get_or xs k x → test x ≡ false → filter test xs ≡ filter test (remove xs k)
filter_without test [] k x within at stops = let impossible : ⊥ = omega (arith, within) in absurd impossible
filter_without test (y ∷ xs) zero x within at stops = filter_here test y xs (ap test (sym at) ∙ stops)
filter_without test (y ∷ xs) (suc k) x within at stops = ap (λ rest. cond (test y) (y ∷ rest) rest) (filter_without test xs k x (omega (arith, within)) at stops)

pub same_without : (constraints : List Constraint) (place : ℕ) (withdrawn : Constraint) → place < length constraints → withdrawn ≡ get_or constraints place withdrawn → AreSameElsewhere constraints (remove constraints place) (listed_in withdrawn.collections)
same_without constraints place withdrawn within at = λ text absent. filter_without (λ c. lists_pattern c text) constraints place withdrawn within at (sym (listed_by text withdrawn) ∙ absent)

-- ---- The next table of another pattern in a loop.
pub others_kept : {A : Type 0} (test : Table → Bool) (value : A → Table) (tables : List A) (i : ℕ) (x : A) (before after : List A) (copy : A) → i < length tables → x ≡ get_or tables i x → map value before ≡ filter test (map value (take i tables))
    → test (value x) ≡ true → value copy ≡ value x → after ≡ before ++ copy ∷ [] → map value after ≡ filter test (map value (take (i + 1) tables))
others_kept test value tables i x before after copy within at_i was passes same pushed =
    ap (map value) pushed ∙ map-append value before (copy ∷ []) ∙ ap₂ (λ ts t. ts ++ t ∷ []) was same ∙ sym (ap (filter test) (seen_more value tables i x within at_i) ∙ filter_pass test (map value (take i tables)) (value x) passes)

pub others_left : {A : Type 0} (test : Table → Bool) (value : A → Table) (tables : List A) (i : ℕ) (x : A) (before after : List A) → i < length tables → x ≡ get_or tables i x → map value before ≡ filter test (map value (take i tables))
    → test (value x) ≡ false → after ≡ before → map value after ≡ filter test (map value (take (i + 1) tables))
others_left test value tables i x before after within at_i was stops same =
    ap (map value) same ∙ was ∙ sym (ap (filter test) (seen_more value tables i x within at_i) ∙ filter_stop test (map value (take i tables)) (value x) stops)

pub among_texts : (patterns : List (Bor (List ℕ))) (text p : List ℕ) (among : Bool) → among ≡ list_any (λ q. bytes_eq q.now text) patterns → text ≡ p → lists (map (λ q. q.now) patterns) p ≡ among
among_texts patterns text p among is same =
    any_seen (λ listed. bytes_eq listed p) (λ q. q.now) patterns ∙ ap (λ t. list_any (λ q. bytes_eq q.now t) patterns) (sym same) ∙ sym is

-- ---- The tables after an edit are correct and complete.
all_tail : {X : Type 0} (P : X → Type 0) (x : X) (xs : List X) → All P (x ∷ xs) → All P xs
all_tail P x xs all = λ k d within. all (suc k) d (omega (arith, within))

abbrev pub is_other : List (List ℕ) → Table → Bool
is_other patterns table = not (lists patterns table.pattern)

pattern_at : (table : Table) (kept : Bool) (rest : List Table) (others : List (List ℕ)) → map (λ t. t.pattern) rest ≡ others → map (λ (t : Table). t.pattern) (cond kept (table ∷ rest) rest) ≡ cond kept (table.pattern ∷ others) others
pattern_at table true rest others is = ap (λ ps. table.pattern ∷ ps) is
pattern_at table false rest others is = is

other_patterns : (patterns : List (List ℕ)) (tables : List Table) → map (λ (t : Table). t.pattern) (filter (is_other patterns) tables) ≡ filter (λ p. not (lists patterns p)) (map (λ t. t.pattern) tables)
other_patterns patterns [] = refl
other_patterns patterns (table ∷ tables) =
    pattern_at table (is_other patterns table) (filter (is_other patterns) tables) (filter (λ p. not (lists patterns p)) (map (λ t. t.pattern) tables)) (other_patterns patterns tables)

module _ (rules : Rules) (old new : List Constraint) (patterns : List (List ℕ)) (same : AreSameElsewhere old new patterns) where
  kept_table : (table : Table) → lists patterns table.pattern ≡ false → IsTable rules old table → IsTable rules new table
  kept_table table other is = λ method.
      subst (λ covering. IsMerged rules covering (entry_for table.entries.value method))
      (sym (filter_within (λ c. covers c table.pattern method) (λ c. lists_pattern c table.pattern) (covers_listed table.pattern method) old)
      ∙ ap (filter (λ c. covers c table.pattern method)) (same table.pattern other)
      ∙ filter_within (λ c. covers c table.pattern method) (λ c. lists_pattern c table.pattern) (covers_listed table.pattern method) new)
      (is method)

  kept_at : (table : Table) (listed : Bool) (rest : List Table) → lists patterns table.pattern ≡ listed → IsTable rules old table → All (IsTable rules new) rest → All (IsTable rules new) (cond (not listed) (table ∷ rest) rest)
  kept_at table true rest other is more = more
  kept_at table false rest other is more = All-cons (IsTable rules new) table rest (kept_table table other is) more

  kept_tables : (tables : List Table) → All (IsTable rules old) tables → All (IsTable rules new) (filter (is_other patterns) tables)
  kept_tables [] all = all_none (IsTable rules new)
  kept_tables (table ∷ tables) all =
      kept_at table (lists patterns table.pattern) (filter (is_other patterns) tables) refl (all 0 table (grind arith)) (kept_tables tables (all_tail (IsTable rules old) table tables all))

  same_listed : (text : List ℕ) → lists patterns text ≡ false → lists (all_patterns old) text ≡ lists (all_patterns new) text
  same_listed text other =
      listed_any old text ∙ sym (some_filtered (λ c. lists_pattern c text) old)
      ∙ ap (λ cs. not (length cs == 0)) (same text other)
      ∙ some_filtered (λ c. lists_pattern c text) new ∙ sym (listed_any new text)

  text_at : (text : List ℕ) (listed held : Bool) → lists patterns text ≡ listed → held ≡ lists (all_patterns old) text → ((held && not listed) || (listed && lists (all_patterns new) text)) ≡ lists (all_patterns new) text
  text_at text true held is was = ap (λ b. b || lists (all_patterns new) text) (and_none held)
    where
      and_none : (a : Bool) → (a && false) ≡ false
      and_none true = refl
      and_none false = refl
  text_at text false held is was = tidy held ∙ was ∙ same_listed text is
    where
      tidy : (a : Bool) → ((a && true) || false) ≡ a
      tidy true = refl
      tidy false = refl

  texts_after : (tables : List Table) → ((text : List ℕ) → lists (map (λ t. t.pattern) tables) text ≡ lists (all_patterns old) text) → (text : List ℕ)
      → lists (map (λ (t : Table). t.pattern) (filter (is_other patterns) tables) ++ filter (lists (all_patterns new)) patterns) text ≡ lists (all_patterns new) text
  texts_after tables were text =
      list_any-append (λ listed. bytes_eq listed text) (map (λ (t : Table). t.pattern) (filter (is_other patterns) tables)) (filter (lists (all_patterns new)) patterns)
      ∙ ap₂ (λ a b. a || b)
      (ap (λ ps. lists ps text) (other_patterns patterns tables) ∙ passing_lists (λ p. not (lists patterns p)) (map (λ t. t.pattern) tables) text)
      (passing_lists (lists (all_patterns new)) patterns text)
      ∙ text_at text (lists patterns text) (lists (map (λ t. t.pattern) tables) text) refl (were text)

-- Lists that agree except on some patterns agree except on the same patterns without duplicates.
pub same_once : (old new : List Constraint) (patterns : List (List ℕ)) → AreSameElsewhere old new patterns → AreSameElsewhere old new (different patterns)
same_once old new patterns same = λ text absent. same text (sym (different_lists patterns text) ∙ absent)

-- The kept tables are correct.
pub kept_whole : {A : Type 0} (value : A → Table) (rules : Rules) (old new : List Constraint) (patterns : List (List ℕ)) (tables kept : List A) → AreSameElsewhere old new patterns → AreCompiled rules old (map value tables)
    → map value kept ≡ filter (is_other patterns) (map value tables) → All (IsTable rules new) (map value kept)
kept_whole value rules old new patterns tables kept same compiled are = subst (All (IsTable rules new)) (sym are) (kept_tables rules old new patterns same (map value tables) compiled.whole)

-- The kept tables and those of the edited patterns are all tables.
pub all_whole : {A : Type 0} (value : A → Table) (rules : Rules) (old new : List Constraint) (patterns : List (List ℕ)) (tables kept after : List A) → AreSameElsewhere old new patterns → AreCompiled rules old (map value tables)
    → map value kept ≡ filter (is_other patterns) (map value tables) → map (λ t. (value t).pattern) after ≡ map (λ t. (value t).pattern) kept ++ filter (λ text. lists (all_patterns new) text) patterns → All (IsTable rules new) (map value after)
    → AreCompiled rules new (map value after)
all_whole value rules old new patterns tables kept after same compiled are texts whole = record {
  whole = whole;
  texts = λ text.
      ap (λ ps. lists ps text) (seen_twice value (λ t. t.pattern) after ∙ texts
      ∙ ap (λ ps. ps ++ filter (lists (all_patterns new)) patterns) (sym (seen_twice value (λ t. t.pattern) kept) ∙ ap (map (λ t. t.pattern)) are))
      ∙ texts_after rules old new patterns same (map value tables) compiled.texts text;
}

pub count_is : {A X : Type 0} (f : A → X) (xs : List A) (ys : List X) (count len : ℕ) → count ≡ len → length xs ≡ len → map f xs ≡ ys → count ≡ length ys
count_is f xs ys count len counted is are = counted ∙ sym is ∙ sym (length_map f xs) ∙ ap length are

pub at_any : {X : Type 0} (xs : List X) (k : ℕ) (a b : X) → k < length xs → get_or xs k a ≡ get_or xs k b
at_any [] k a b within = let impossible : ⊥ = omega (arith, within) in absurd impossible
at_any (x ∷ xs) zero a b within = refl
at_any (x ∷ xs) (suc k) a b within = at_any xs k a b (omega (arith, within))
