-- The tables of patterns are correct and complete.
use Rattle.std.proofs.Common.{arith, subst, ◌≡◌, ℕ, ◌+◌, ◌<◌, Bool, true, false, not, List, [], ◌∷◌, ◌++◌, length, take, get_or, map, refl, ap, ap₂, sym, ◌∙◌, cond, append-nil}
use Rattle.std.specs.Borrow.{Bor}
use Rattle.std.specs.Prelude.{All, filter}
use Rattle.std.proofs.lemmas.List.{append_assoc, map-append}
use Rattle.std.proofs.lemmas.List.Elements.{filter-append}
use Rattle.sv_constraints.specs.Covering.{covers}
use Rattle.sv_constraints.specs.declared.constraint.Constraint.{Constraint}
use Rattle.sv_constraints.specs.declared.constraint.Rules.{Rules}
use Rattle.sv_policy.specs.Merged.{IsMerged}
use Rattle.sv_policy.specs.Entries.{entry_for}
use Rattle.sv_policy.specs.Table.{IsTable}
use Rattle.sv_policy.specs.declared.table.Table.{Table}
use Rattle.sv_policy.proofs.Listed.{covers_listed, filter_within}
use Rattle.sv_policy.specs.Patterns.{lists_pattern}
use Rattle.sv_policy.proofs.Steps.{seen_more}

-- A table merged from the constraints that list its pattern is also a table of all constraints.
pub table_of_all : (rules : Rules) (constraints : List Constraint) (members : List Constraint) (table : Table) (pattern : List ℕ) → members ≡ filter (λ c. lists_pattern c pattern) constraints → pattern ≡ table.pattern → IsTable rules members table → IsTable rules constraints table
table_of_all rules constraints members table pattern are same is = λ method.
    subst (λ covering. IsMerged rules covering (entry_for table.entries.value method))
    (ap (filter (λ c. covers c table.pattern method)) (are ∙ ap (λ p. filter (λ c. lists_pattern c p) constraints) same)
    ∙ filter_within (λ c. covers c table.pattern method) (λ c. lists_pattern c table.pattern) (covers_listed table.pattern method) constraints)
    (is method)

pub nothing_pushed : (texts : List (List ℕ)) (text : List ℕ) (listed : Bool) → not true ≡ listed → texts ≡ texts ++ cond listed (text ∷ []) []
nothing_pushed texts text listed is = sym (append-nil texts) ∙ ap (λ b. texts ++ cond b (text ∷ []) []) is

pub seen_twice : {A B C : Type 0} (f : A → B) (g : B → C) (xs : List A) → map g (map f xs) ≡ map (λ x. g (f x)) xs
seen_twice f g [] = refl
seen_twice f g (x ∷ xs) = ap (λ rest. g (f x) ∷ rest) (seen_twice f g xs)

-- The patterns of tables after one more.
pub text_made : {A : Type 0} (value : A → Table) (old new : List A) (table : Table) (text : List ℕ) (listed : Bool) → map value new ≡ map value old ++ table ∷ [] → table.pattern ≡ text → not false ≡ listed
    → map (λ x. (value x).pattern) new ≡ map (λ x. (value x).pattern) old ++ cond listed (text ∷ []) []
text_made value old new table text listed made is listing =
    sym (seen_twice value (λ t. t.pattern) new) ∙ ap (map (λ t. t.pattern)) made ∙ map-append (λ t. t.pattern) (map value old) (table ∷ [])
    ∙ ap₂ (λ texts t. texts ++ t ∷ []) (seen_twice value (λ t. t.pattern) old) is ∙ ap (λ b. map (λ x. (value x).pattern) old ++ cond b (text ∷ []) []) listing

-- The texts that pass a test, after one more.
pub texts_more : (test : List ℕ → Bool) (items : List (Bor (List ℕ))) (i : ℕ) (text : Bor (List ℕ)) (old before after : List (List ℕ)) → i < length items → text ≡ get_or items i text
    → before ≡ old ++ filter test (map (λ t. t.now) (take i items)) → after ≡ before ++ cond (test text.now) (text.now ∷ []) [] → after ≡ old ++ filter test (map (λ t. t.now) (take (i + 1) items))
texts_more test items i text old before after within at_i was pushed =
    pushed ∙ ap (λ xs. xs ++ cond (test text.now) (text.now ∷ []) []) was
    ∙ append_assoc old (filter test (map (λ t. t.now) (take i items))) (cond (test text.now) (text.now ∷ []) [])
    ∙ ap (λ xs. old ++ xs) (sym (filter-append test (map (λ t. t.now) (take i items)) (text.now ∷ [])) ∙ ap (filter test) (sym (seen_more (λ t. t.now) items i text within at_i)))

pub all_none : {X : Type 0} (P : X → Type 0) → All P []
all_none P k d below = let impossible : ⊥ = omega arith in absurd impossible
