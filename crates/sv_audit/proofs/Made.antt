-- Loop steps of sorted texts, cells and rows.
use Rattle.std.proofs.lemmas.Bool.{or_parts}
use Rattle.std.proofs.Common.{Option, None, Some, Result, Ok, Err, codes, ◌≡◌, ℕ, ◌+◌, ◌<◌, Bool, true, false, not, ◌||◌, List, [], ◌∷◌, ◌++◌, length, take, get_or, map, refl, ap, ap₂, sym, ◌∙◌, cond, append-nil, Ordering, Less, Equal, Greater, nat_cmp}
use Rattle.std.specs.Borrow.{Bor}
use Rattle.std.specs.Prelude.{filter}
use Rattle.std.specs.BTreeSet.{insert_key}
use Rattle.std.specs.Cmp.Lexicographic.{slice_cmp}
use Rattle.std.specs.List.{flat_map, list_any}
use Rattle.std.specs.Ordering.{match_ordering}
use Rattle.std.proofs.lemmas.List.{map-append, take_more}
use Rattle.std.proofs.lemmas.List.Elements.{filter-append}
use Rattle.std.proofs.lemmas.List.Sums.{fold-append}
use Rattle.sv_text.specs.Gives.{GivesAnswer}
use Rattle.sv_text.specs.declared.no_memory.NoMemory.{NoMemory}
use Rattle.sv_realm.specs.declared.caller.Caller.{Caller}
use Rattle.sv_constraints.specs.Covering.{all_patterns, covers, lists}
use Rattle.sv_constraints.specs.declared.constraint.Collection.{Collection}
use Rattle.sv_constraints.specs.declared.constraint.Constraint.{Constraint}
use Rattle.sv_constraints.specs.declared.constraint.Methods.{Methods}
use Rattle.sv_constraints.specs.declared.constraint.Rules.{Rules}
use Rattle.sv_policy.proofs.Listed.{covers_listed, filter_within}
use Rattle.sv_policy.specs.Covering.{collection_covers_unnamed, covers_at, covers_unnamed, leaves_others_open, listed_methods, method_names, named_methods}
use Rattle.sv_policy.specs.Patterns.{lists_pattern}
use Rattle.sv_policy.specs.Uncovered.{rising}
use Rattle.sv_audit.proofs.Equal.{and_left, cell_from}
use Rattle.sv_audit.proofs.Found.{ordered_lists}
use Rattle.sv_audit.specs.Access.{cell_for}
use Rattle.sv_audit.specs.Rows.{different_cells, exceptions, groups_of, in_row_order, match_every_path, named_cell, other_paths, others_cell, row_for, table_for}
use Rattle.sv_audit.specs.Same.{same_cell}
use Rattle.sv_audit.specs.declared.access.Cell.{Cell}
use Rattle.sv_audit.specs.declared.access.Access.{Access}
use Rattle.sv_audit.specs.declared.rows.Group.{Group}
use Rattle.sv_audit.specs.declared.rows.NamedCell.{NamedCell}
use Rattle.sv_audit.specs.declared.rows.Row.{Row}
use Rattle.sv_audit.specs.declared.rows.Table.{Table}

abbrev pub row_with : List ℕ → List Group → Row
row_with its_pattern its_groups = record { pattern = Some its_pattern; groups = its_groups }

abbrev pub group_made : Methods → Cell → Group
group_made its_methods its_cell = record { methods = its_methods; cell = its_cell }

abbrev table_with : List Row → Table
table_with its_rows = record { rows = its_rows }

-- ---- Texts in byte order.
abbrev by_text : Bor (List ℕ) → Bor (List ℕ) → Ordering
by_text x y = slice_cmp nat_cmp x.now y.now

put_at : (k x : Bor (List ℕ)) (xs put : List (Bor (List ℕ))) (texts : List (List ℕ)) (at : Ordering) → map (λ y. y.now) put ≡ texts → map (λ y. y.now) (match_ordering at (k ∷ x ∷ xs) (x ∷ xs) (x ∷ put)) ≡ match_ordering at (k.now ∷ x.now ∷ map (λ y. y.now) xs) (x.now ∷ map (λ y. y.now) xs) (x.now ∷ texts)
put_at k x xs put texts Less is = refl
put_at k x xs put texts Equal is = refl
put_at k x xs put texts Greater is = ap (λ rest. x.now ∷ rest) is

texts_put : (k : Bor (List ℕ)) (xs : List (Bor (List ℕ))) → map (λ y. y.now) (insert_key by_text xs k) ≡ insert_key (slice_cmp nat_cmp) (map (λ y. y.now) xs) k.now
texts_put k [] = refl
texts_put k (x ∷ xs) = put_at k x xs (insert_key by_text xs k) (insert_key (slice_cmp nat_cmp) (map (λ y. y.now) xs) k.now) (by_text k x) (texts_put k xs)

pub sorted_more : (xs : List (Bor (List ℕ))) (i : ℕ) (x : Bor (List ℕ)) (before after : List (Bor (List ℕ))) → i < length xs → map (λ y. y.now) before ≡ rising (map (λ y. y.now) (take i xs)) → after ≡ insert_key by_text before (get_or xs i x) → map (λ y. y.now) after ≡ rising (map (λ y. y.now) (take (i + 1) xs))
sorted_more xs i x before after within was put =
    ap (map (λ (y : Bor (List ℕ)). y.now)) put ∙ texts_put (get_or xs i x) before ∙ ap (λ texts. insert_key (slice_cmp nat_cmp) texts (get_or xs i x).now) was
    ∙ sym (ap (λ ys. rising (map (λ (y : Bor (List ℕ)). y.now) ys)) (take_more xs i x within)
    ∙ ap rising (map-append (λ (y : Bor (List ℕ)). y.now) (take i xs) (get_or xs i x ∷ [])) ∙ fold-append (insert_key (slice_cmp nat_cmp)) [] (map (λ y. y.now) (take i xs)) ((get_or xs i x).now ∷ []))

-- ---- The different cells after one more method.
module _ (x y : Cell) (apart : same_cell y x ≡ false) where
  through_at : (z : Cell) (rest : List Cell) (others same : Bool) → same_cell y z ≡ same → list_any (λ cell. same_cell cell x) rest ≡ others →
      list_any (λ cell. same_cell cell x) (cond (not same) (z ∷ rest) rest) ≡ (same_cell z x || others)
  through_at z rest others true is below = below ∙ ap (λ b. b || others) (sym (ap (λ c. same_cell c x) (sym (cell_from y z is)) ∙ apart))
  through_at z rest others false is below = ap (λ b. same_cell z x || b) below

  any_through : (cells : List Cell) → list_any (λ cell. same_cell cell x) (filter (λ cell. not (same_cell y cell)) cells) ≡ list_any (λ cell. same_cell cell x) cells
  any_through [] = refl
  any_through (z ∷ cells) = through_at z (filter (λ cell. not (same_cell y cell)) cells) (list_any (λ cell. same_cell cell x) cells) (same_cell y z) refl (any_through cells)

last_at : (x y : Cell) (cells : List Cell) (same found : Bool) → same_cell y x ≡ same → list_any (λ cell. same_cell cell x) cells ≡ found →
    filter (λ cell. not (same_cell y cell)) (cond found [] (x ∷ [])) ≡ cond (same || list_any (λ cell. same_cell cell x) (filter (λ cell. not (same_cell y cell)) cells)) [] (x ∷ [])
last_at x y cells true true is found = refl
last_at x y cells true false is found = ap (λ b. cond (not b) (x ∷ []) []) is
last_at x y cells false true is found = ap (λ b. cond b [] (x ∷ [])) (sym (any_through x y is cells ∙ found))
last_at x y cells false false is found = ap (λ b. cond (not b) (x ∷ []) []) is ∙ ap (λ b. cond b [] (x ∷ [])) (sym (any_through x y is cells ∙ found))

different_more : (named : List NamedCell) (one : NamedCell) → different_cells (named ++ one ∷ []) ≡ different_cells named ++ cond (list_any (λ cell. same_cell cell one.cell) (different_cells named)) [] (one.cell ∷ [])
different_more [] one = refl
different_more (first ∷ named) one =
    ap (λ cells. first.cell ∷ filter (λ cell. not (same_cell first.cell cell)) cells) (different_more named one)
    ∙ ap (λ cells. first.cell ∷ cells)
    (filter-append (λ cell. not (same_cell first.cell cell)) (different_cells named) (cond (list_any (λ cell. same_cell cell one.cell) (different_cells named)) [] (one.cell ∷ []))
    ∙ ap (λ rest. filter (λ cell. not (same_cell first.cell cell)) (different_cells named) ++ rest)
    (last_at one.cell first.cell (different_cells named) (same_cell first.cell one.cell) (list_any (λ cell. same_cell cell one.cell) (different_cells named)) refl refl))

pub next_cell : (named : List NamedCell) (i : ℕ) (one : NamedCell) (cell : Cell) (before after : List Cell) → i < length named → one ≡ get_or named i one → cell ≡ one.cell → before ≡ different_cells (take i named)
    → after ≡ before ++ cond (list_any (λ other. same_cell other cell) before) [] (cell ∷ []) → after ≡ different_cells (take (i + 1) named)
next_cell named i one cell before after within at is was pushed =
    pushed ∙ ap₂ (λ cells c. cells ++ cond (list_any (λ other. same_cell other c) cells) [] (c ∷ [])) was is
    ∙ sym (ap different_cells (take_more named i one within ∙ ap (λ o. take i named ++ o ∷ []) (sym at)) ∙ different_more (take i named) one)

-- ---- A row by its parts.
pub row_made : (whose : Access → Option Caller) (constraints : List Constraint) (rules : Rules) (text pattern : List ℕ) (members : List Constraint) (others : Cell) (named : List NamedCell) (groups : List Group) → text ≡ pattern → members ≡ filter (λ c. covers_at c pattern None) constraints → others ≡ cell_for whose rules (Some pattern) members
    → named ≡ filter (λ one. not (same_cell one.cell others)) (map (named_cell whose constraints rules pattern) (rising (named_methods constraints pattern))) → groups ≡ groups_of named others
    → row_with text groups ≡ row_for whose constraints rules pattern
unfolding exceptions
row_made whose constraints rules text pattern members others named groups same are is named_are made =
    let its_cell : others ≡ others_cell whose constraints rules pattern = is ∙ ap (cell_for whose rules (Some pattern)) are in
    ap₂ row_with same
    (made ∙ ap (λ ns. groups_of ns others) named_are
    ∙ ap (λ o. groups_of (filter (λ (one : NamedCell). not (same_cell one.cell o)) (map (named_cell whose constraints rules pattern) (rising (named_methods constraints pattern)))) o) its_cell)

-- ---- The row by the constraints that list the pattern.
weaker_or : (a b r s : Bool) → (a ≡ true → b ≡ true) → (r ≡ true → s ≡ true) → (a || r) ≡ true → (b || s) ≡ true
weaker_or true b r s first rest h = ap (λ x. x || s) (first refl)
weaker_or false true r s first rest h = refl
weaker_or false false r s first rest h = rest h

any_weaker : {A : Type 0} (f g : A → Bool) → ((x : A) → f x ≡ true → g x ≡ true) → (xs : List A) → list_any f xs ≡ true → list_any g xs ≡ true
any_weaker f g weaker [] found = found
any_weaker f g weaker (x ∷ xs) found = weaker_or (f x) (g x) (list_any f xs) (list_any g xs) (weaker x) (any_weaker f g weaker xs) found

pub unnamed_listed : (pattern : List ℕ) (c : Constraint) → covers_unnamed c pattern ≡ true → lists_pattern c pattern ≡ true
unnamed_listed pattern c = any_weaker (λ collection. collection_covers_unnamed collection pattern) (λ collection. lists collection.patterns pattern)
    (λ collection. and_left (lists collection.patterns pattern) (not (leaves_others_open collection.methods))) c.collections

none_listed : (pattern : List ℕ) (collections : List Collection) → list_any (λ collection. lists collection.patterns pattern) collections ≡ false → listed_methods collections pattern ≡ []
none_listed pattern [] none = refl
none_listed pattern (collection ∷ collections) none =
    ap (λ b. flat_map (λ (one : Collection). method_names one.methods) (cond b (collection ∷ filter (λ (one : Collection). lists one.patterns pattern) collections) (filter (λ (one : Collection). lists one.patterns pattern) collections))) ((or_parts (lists collection.patterns pattern) (list_any (λ (one : Collection). lists one.patterns pattern) collections) none).0)
    ∙ none_listed pattern collections ((or_parts (lists collection.patterns pattern) (list_any (λ (one : Collection). lists one.patterns pattern) collections) none).1)

named_at : (pattern : List ℕ) (c : Constraint) (rest : List Constraint) (names : List (List ℕ)) (listed : Bool) → lists_pattern c pattern ≡ listed → named_methods rest pattern ≡ names → named_methods (cond listed (c ∷ rest) rest) pattern ≡ listed_methods c.collections pattern ++ names
named_at pattern c rest names true is below = ap (λ ns. listed_methods c.collections pattern ++ ns) below
named_at pattern c rest names false is below = below ∙ ap (λ ns. ns ++ names) (sym (none_listed pattern c.collections is))

pub named_of_all : (pattern : List ℕ) (constraints : List Constraint) → named_methods (filter (λ c. lists_pattern c pattern) constraints) pattern ≡ named_methods constraints pattern
named_of_all pattern [] = refl
named_of_all pattern (c ∷ constraints) = named_at pattern c (filter (λ x. lists_pattern x pattern) constraints) (named_methods constraints pattern) (lists_pattern c pattern) refl (named_of_all pattern constraints)

pub map_agree : {A B : Type 0} (f g : A → B) → ((x : A) → f x ≡ g x) → (xs : List A) → map f xs ≡ map g xs
map_agree f g same [] = refl
map_agree f g same (x ∷ xs) = ap₂ (λ y ys. y ∷ ys) (same x) (map_agree f g same xs)

pub row_of_all : (whose : Access → Option Caller) (constraints members : List Constraint) (rules : Rules) (pattern : List ℕ) → members ≡ filter (λ c. lists_pattern c pattern) constraints → row_for whose members rules pattern ≡ row_for whose constraints rules pattern
unfolding exceptions
row_of_all whose constraints members rules pattern are =
    ap (λ ms. row_for whose ms rules pattern) are
    ∙ ap₂ (λ o named. row_with pattern (groups_of (filter (λ (one : NamedCell). not (same_cell one.cell o)) named) o))
    (ap (cell_for whose rules (Some pattern)) (filter_within (λ c. covers_unnamed c pattern) (λ c. lists_pattern c pattern) (unnamed_listed pattern) constraints))
    (ap (map (named_cell whose (filter (λ c. lists_pattern c pattern) constraints) rules pattern)) (ap rising (named_of_all pattern constraints))
    ∙ map_agree (named_cell whose (filter (λ c. lists_pattern c pattern) constraints) rules pattern) (named_cell whose constraints rules pattern)
    (λ method. ap (λ covered. let made : NamedCell = record { name = method; cell = cell_for whose rules (Some pattern) covered } in made) (filter_within (λ c. covers c pattern method) (λ c. lists_pattern c pattern) (covers_listed pattern method) constraints))
    (rising (named_methods constraints pattern)))

-- ---- The last steps of functions.
pub pushed_not : (before : List Cell) (found : Bool) (cell : Cell) → found ≡ true → before ≡ before ++ cond found [] (cell ∷ [])
pushed_not before found cell is = sym (append-nil before) ∙ ap (λ b. before ++ cond b [] (cell ∷ [])) (sym is)

pub pushed_last : (before : List Cell) (found : Bool) (cell : Cell) → found ≡ false → before ++ cell ∷ [] ≡ before ++ cond found [] (cell ∷ [])
pushed_last before found cell is = ap (λ b. before ++ cond b [] (cell ∷ [])) (sym is)

pub gives_along : {A : Type 0} (result : Result A NoMemory) (a b : A) → a ≡ b → GivesAnswer result a → GivesAnswer result b
gives_along (Ok x) a b same is = is ∙ same
gives_along (Err e) a b same is = is

-- ---- The table by its rows.
pub table_made : (whose : Access → Option Caller) (constraints : List Constraint) (rules : Rules) (patterns texts : List (List ℕ)) (rows all : List Row) → patterns ≡ in_row_order (all_patterns constraints) → texts ≡ patterns → rows ≡ map (row_for whose constraints rules) texts
    → all ≡ rows ++ cond (match_every_path texts) [] (other_paths ∷ []) → table_with all ≡ table_for whose constraints rules
table_made whose constraints rules patterns texts rows all are same made whole =
    ap table_with
    (whole ∙ ap (λ rs. rs ++ cond (match_every_path texts) [] (other_paths ∷ [])) made
    ∙ ap (λ ts. map (row_for whose constraints rules) ts ++ cond (match_every_path ts) [] (other_paths ∷ [])) (same ∙ are)
    ∙ ap (λ b. map (row_for whose constraints rules) (in_row_order (all_patterns constraints)) ++ cond b [] (other_paths ∷ []))
    (ap₂ (λ a b. a || b) (ordered_lists (all_patterns constraints) (codes "/")) (ordered_lists (all_patterns constraints) (codes "/*"))))
