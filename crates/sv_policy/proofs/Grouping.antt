-- Constraints are added to the groups of their patterns.
use Rattle.std.proofs.lemmas.Bool.{false≢true, or_parts}
use Rattle.std.proofs.Common.{arith, subst, ◌≡◌, ℕ, zero, suc, ◌+◌, ◌<◌, ◌≤◌, Bool, true, false, not, ◌||◌, ◌&&◌, List, [], ◌∷◌, ◌++◌, length, take, get_or, map, refl, ap, ap₂, sym, ◌∙◌, cond, append-nil, ◌==◌, Option, None, Some, is_some}
use Rattle.std.specs.Borrow.{Bor}
use Rattle.std.specs.Prelude.{⊤, filter, fold}
use Rattle.std.specs.HashMap.{get_by}
use Rattle.std.specs.Option.{option_map_or}
use Rattle.std.specs.Str.{bytes_eq}
use Rattle.std.proofs.lemmas.Bool.Decides.{same_from_decides}
use Rattle.std.proofs.lemmas.List.{map-append, take_all, take_more}
use Rattle.std.proofs.lemmas.List.Folds.{list_any-append}
use Rattle.std.proofs.lemmas.Slice.Eq.{bytes_eq-Decides}
use Rattle.sv_constraints.specs.Covering.{all_patterns, lists}
use Rattle.sv_constraints.specs.declared.constraint.Constraint.{Constraint}
use Rattle.sv_policy.proofs.Listed.{different_lists, listed_any, listed_by, some_filtered}
use Rattle.sv_policy.specs.Groups.{IsGrouped}
use Rattle.sv_policy.specs.declared.groups.Groups.{Groups}
use Rattle.sv_policy.specs.declared.table.Table.{Table}
use Rattle.sv_policy.specs.Patterns.{different, kept_once, listed_in, lists_pattern}
use Rattle.sv_policy.proofs.Steps.{filter_pass, filter_stop, passing_lists, seen_more}

pub turned : (a b : List ℕ) → bytes_eq a b ≡ bytes_eq b a
turned a b = same_from_decides (bytes_eq a b) (bytes_eq b a) (bytes_eq-Decides a b) ((λ h. sym ((bytes_eq-Decides b a).0 h)), (λ e. (bytes_eq-Decides b a).1 (sym e)))

-- ---- Each text once.
abbrev Once : List (List ℕ) → Type 0
Once [] = ⊤
Once (x ∷ xs) = (lists xs x ≡ false) × Once xs

once_push : (xs : List (List ℕ)) (y : List ℕ) → Once xs → lists xs y ≡ false → Once (xs ++ y ∷ [])
once_push [] y once absent = (refl, tt)
once_push (x ∷ xs) y once absent = (
  list_any-append (λ listed. bytes_eq listed x) xs (y ∷ [])
      ∙ ap₂ (λ a b. a || (b || false)) once.0 (turned y x ∙ (or_parts (bytes_eq x y) (lists xs y) absent).0),
  once_push xs y once.1 ((or_parts (bytes_eq x y) (lists xs y) absent).1),
)

once_kept : (kept : List (List ℕ)) (text : List ℕ) (there : Bool) → lists kept text ≡ there → Once kept → Once (cond there kept (kept ++ text ∷ []))
once_kept kept text true is once = once
once_kept kept text false is once = once_push kept text once is

once_from : (kept texts : List (List ℕ)) → Once kept → Once (fold kept_once kept texts)
once_from kept [] once = once
once_from kept (text ∷ texts) once = once_from (kept_once kept text) texts (once_kept kept text (lists kept text) refl once)

different_once : (texts : List (List ℕ)) → Once (different texts)
different_once texts = once_from [] texts tt

not_at : (items : List (Bor (List ℕ))) (i : ℕ) (x : Bor (List ℕ)) (text : List ℕ) → lists (map (λ p. p.now) items) text ≡ false → i < length items → x ≡ get_or items i x → bytes_eq x.now text ≡ false
not_at [] i x text absent within at = let impossible : ⊥ = omega (arith, within) in absurd impossible
not_at (y ∷ items) zero x text absent within at = ap (λ (p : Bor (List ℕ)). bytes_eq p.now text) at ∙ (or_parts (bytes_eq y.now text) (lists (map (λ p. p.now) items) text) absent).0
not_at (y ∷ items) (suc i) x text absent within at = not_at items i x text ((or_parts (bytes_eq y.now text) (lists (map (λ p. p.now) items) text) absent).1) (omega (arith, within)) at

-- A text is not among those before it.
once_take : (items : List (Bor (List ℕ))) (i : ℕ) (x : Bor (List ℕ)) → Once (map (λ p. p.now) items) → i < length items → x ≡ get_or items i x → lists (map (λ p. p.now) (take i items)) x.now ≡ false
once_take [] i x once within at = let impossible : ⊥ = omega (arith, within) in absurd impossible
once_take (y ∷ items) zero x once within at = refl
once_take (y ∷ items) (suc i) x once within at =
    ap₂ (λ a b. a || b) (turned y.now x.now ∙ not_at items i x y.now once.0 (omega (arith, within)) at) (once_take items i x once.1 (omega (arith, within)) at)

pub new_text : (items slice : List (Bor (List ℕ))) (i : ℕ) (x : Bor (List ℕ)) (texts : List (List ℕ)) → slice ≡ items → map (λ p. p.now) items ≡ different texts → i < length slice → x ≡ get_or slice i x → lists (map (λ p. p.now) (take i slice)) x.now ≡ false
new_text items slice i x texts same are within at =
    once_take slice i x (subst Once (sym (ap (map (λ (p : Bor (List ℕ)). p.now)) same ∙ are)) (different_once texts)) within at

-- ---- One more member.
pub seen_pushed : (new old : List (Bor Constraint)) (same : Bool) (x : Bor Constraint) → new ≡ old ++ cond same (x ∷ []) [] → map (λ m. m.now) new ≡ map (λ m. m.now) old ++ cond same (x.now ∷ []) []
seen_pushed new old true x is = ap (map (λ (m : Bor Constraint). m.now)) is ∙ map-append (λ m. m.now) old (x ∷ [])
seen_pushed new old false x is = ap (map (λ (m : Bor Constraint). m.now)) is ∙ map-append (λ m. m.now) old []

-- ---- The patterns are those that have a group.
absorbed : (a : Bool) → a ≡ true → (a || true) ≡ a
absorbed a is = ap (λ b. b || true) is ∙ sym is

pub or_none : (a : Bool) → (a || false) ≡ a
or_none true = refl
or_none false = refl

module _ (has after : List ℕ → Bool) (patterns : List (Bor (List ℕ))) (text : List ℕ) (more : (q : List ℕ) → after q ≡ (has q || bytes_eq q text)) (are : (q : List ℕ) → has q ≡ lists (map (λ p. p.now) patterns) q) where
  stays_at : (q : List ℕ) (same : Bool) → bytes_eq q text ≡ same → has text ≡ true → (has q || same) ≡ has q
  stays_at q true is there = absorbed (has q) (ap has ((bytes_eq-Decides q text).0 is) ∙ there)
  stays_at q false is there = or_none (has q)

  pub patterns_stay : (others : List (Bor (List ℕ))) → others ≡ patterns → has text ≡ true → (q : List ℕ) → after q ≡ lists (map (λ p. p.now) others) q
  patterns_stay others same there q = more q ∙ stays_at q (bytes_eq q text) refl there ∙ are q ∙ ap (λ (ps : List (Bor (List ℕ))). lists (map (λ p. p.now) ps) q) (sym same)

  pub patterns_more : (others : List (Bor (List ℕ))) (p : Bor (List ℕ)) → others ≡ patterns ++ p ∷ [] → p.now ≡ text → (q : List ℕ) → after q ≡ lists (map (λ x. x.now) others) q
  patterns_more others p pushed same q =
      more q ∙ ap₂ (λ a b. a || b) (are q) (turned q text ∙ ap (λ t. bytes_eq t q) (sym same) ∙ sym (or_none (bytes_eq p.now q)))
      ∙ sym (ap (λ (ps : List (Bor (List ℕ))). lists (map (λ x. x.now) ps) q) pushed ∙ ap (λ ps. lists ps q) (map-append (λ x. x.now) patterns (p ∷ [])) ∙ list_any-append (λ listed. bytes_eq listed q) (map (λ x. x.now) patterns) (p.now ∷ []))

-- ---- A constraint is added to the groups of its patterns.
entered_at : (old : List Constraint) (c : Constraint) (listed same : Bool) (members : List Constraint) → members ≡ old ++ cond listed (c ∷ []) [] → (same ≡ true → listed ≡ false) → members ++ cond same (c ∷ []) [] ≡ old ++ cond (listed || same) (c ∷ []) []
entered_at old c true true members is once = absurd (false≢true (sym (once refl)))
entered_at old c true false members is once = append-nil members ∙ is
entered_at old c false true members is once = ap (λ ms. ms ++ c ∷ []) (is ∙ append-nil old)
entered_at old c false false members is once = append-nil members ∙ is

pub entered_more : (items : List (Bor (List ℕ))) (i : ℕ) (p : Bor (List ℕ)) (old members after : List Constraint) (c : Constraint) (q : List ℕ) → i < length items → p ≡ get_or items i p → lists (map (λ x. x.now) (take i items)) p.now ≡ false
    → members ≡ old ++ cond (lists (map (λ x. x.now) (take i items)) q) (c ∷ []) [] → after ≡ members ++ cond (bytes_eq q p.now) (c ∷ []) [] → after ≡ old ++ cond (lists (map (λ x. x.now) (take (i + 1) items)) q) (c ∷ []) []
entered_more items i p old members after c q within at absent was pushed =
    pushed ∙ entered_at old c (lists (map (λ x. x.now) (take i items)) q) (bytes_eq q p.now) members was (λ same. ap (lists (map (λ x. x.now) (take i items))) ((bytes_eq-Decides q p.now).0 same) ∙ absent)
    ∙ ap (λ b. old ++ cond b (c ∷ []) [])
    (ap (λ b. lists (map (λ x. x.now) (take i items)) q || b) (turned q p.now ∙ sym (or_none (bytes_eq p.now q)))
    ∙ sym (ap (λ ps. lists ps q) (seen_more (λ x. x.now) items i p within at) ∙ list_any-append (λ listed. bytes_eq listed q) (map (λ x. x.now) (take i items)) (p.now ∷ [])))

pub entered_all : (items slice : List (Bor (List ℕ))) (i : ℕ) (constraint : Constraint) (old members : List Constraint) (q : List ℕ) → length slice ≤ i → slice ≡ items → map (λ p. p.now) items ≡ different (listed_in constraint.collections)
    → members ≡ old ++ cond (lists (map (λ x. x.now) (take i slice)) q) (constraint ∷ []) [] → members ≡ old ++ cond (lists_pattern constraint q) (constraint ∷ []) []
entered_all items slice i constraint old members q ended same are is =
    is ∙ ap (λ b. old ++ cond b (constraint ∷ []) [])
    (ap (λ (ps : List (Bor (List ℕ))). lists (map (λ x. x.now) ps) q) (take_all i slice ended ∙ same) ∙ ap (λ ps. lists ps q) are ∙ different_lists (listed_in constraint.collections) q ∙ listed_by q constraint)

-- The members of a group after one more constraint.
more_at : (text : List ℕ) (before : List Constraint) (c : Constraint) (listed : Bool) → lists_pattern c text ≡ listed → filter (λ x. lists_pattern x text) before ++ cond listed (c ∷ []) [] ≡ filter (λ x. lists_pattern x text) (before ++ c ∷ [])
more_at text before c true is = sym (filter_pass (λ x. lists_pattern x text) before c is)
more_at text before c false is = append-nil (filter (λ x. lists_pattern x text) before) ∙ sym (filter_stop (λ x. lists_pattern x text) before c is)

pub grouped_more : (constraints : List Constraint) (i : ℕ) (c : Constraint) (members after : List Constraint) (text : List ℕ) → i < length constraints → c ≡ get_or constraints i c → members ≡ filter (λ x. lists_pattern x text) (take i constraints)
    → after ≡ members ++ cond (lists_pattern c text) (c ∷ []) [] → after ≡ filter (λ x. lists_pattern x text) (take (i + 1) constraints)
grouped_more constraints i c members after text within at was pushed =
    pushed ∙ ap (λ ms. ms ++ cond (lists_pattern c text) (c ∷ []) []) was ∙ more_at text (take i constraints) c (lists_pattern c text) refl
    ∙ ap (filter (λ x. lists_pattern x text)) (sym (take_next constraints i c within at))
  where
    take_next : (xs : List Constraint) (k : ℕ) (x : Constraint) → k < length xs → x ≡ get_or xs k x → take (k + 1) xs ≡ take k xs ++ x ∷ []
    take_next xs k x below is = take_more xs k x below ∙ ap (λ y. take k xs ++ y ∷ []) (sym is)

-- ---- The patterns of the groups are those of the constraints.
has_at : {G : Type 0} (items : G → List (Bor Constraint)) (found : Option G) (members : List Constraint) → map (λ m. m.now) (option_map_or items found []) ≡ members → not (length members == 0) ≡ true → is_some found ≡ true
has_at items None members is some = absurd (false≢true (ap (λ (ms : List Constraint). not (length ms == 0)) is ∙ some))
has_at items (Some group) members is some = refl

pub group_listed : (constraints : List Constraint) (groups : Groups) → IsGrouped constraints groups → (text : List ℕ) → lists (all_patterns constraints) text ≡ true → lists (map (λ pattern. pattern.now) groups.patterns.items) text ≡ true
group_listed constraints groups is text there =
    sym (is.patterns text)
    ∙ has_at (λ group. group.items) (get_by (λ key. bytes_eq text key.now) groups.members) (filter (λ c. lists_pattern c text) constraints) (is.members text)
    (some_filtered (λ c. lists_pattern c text) constraints ∙ sym (listed_any constraints text) ∙ there)

both_at : (listed held : Bool) → (held ≡ true → listed ≡ true) → (listed && held) ≡ held
both_at true held there = refl
both_at false true there = absurd (false≢true (there refl))
both_at false false there = refl

seen_twice : {A B C : Type 0} (f : A → B) (g : B → C) (xs : List A) → map g (map f xs) ≡ map (λ x. g (f x)) xs
seen_twice f g [] = refl
seen_twice f g (x ∷ xs) = ap (λ rest. g (f x) ∷ rest) (seen_twice f g xs)

pub texts_of_groups : {A : Type 0} (value : A → Table) (constraints : List Constraint) (tables : List A) (patterns : List (List ℕ)) → map (λ t. (value t).pattern) tables ≡ filter (λ text. lists (all_patterns constraints) text) patterns
    → ((text : List ℕ) → lists (all_patterns constraints) text ≡ true → lists patterns text ≡ true) → (text : List ℕ) → lists (map (λ table. table.pattern) (map value tables)) text ≡ lists (all_patterns constraints) text
texts_of_groups value constraints tables patterns are there text =
    ap (λ texts. lists texts text) (seen_twice value (λ table. table.pattern) tables ∙ are)
    ∙ passing_lists (λ t. lists (all_patterns constraints) t) patterns text
    ∙ both_at (lists patterns text) (lists (all_patterns constraints) text) (there text)

pub no_members : (constraints : List Constraint) (text pattern : List ℕ) → filter (λ c. lists_pattern c text) constraints ≡ [] → text ≡ pattern → not true ≡ lists (all_patterns constraints) pattern
no_members constraints text pattern none same =
    ap (λ (ms : List Constraint). not (length ms == 0)) (sym none) ∙ some_filtered (λ c. lists_pattern c text) constraints ∙ sym (listed_any constraints text) ∙ ap (lists (all_patterns constraints)) same
