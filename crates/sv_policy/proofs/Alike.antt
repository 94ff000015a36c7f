-- Patterns that are listed by the same collections of the same constraints have the same constraints for each method.
use Rattle.std.proofs.lemmas.Bool.{false≢true}
use Rattle.std.proofs.Common.{arith, subst, ◌≡◌, ℕ, ◌≤◌, Bool, true, false, not, ◌||◌, ◌&&◌, ◌==◌, List, [], ◌∷◌, length, refl, ap, ap₂, sym, ◌∙◌, cond}
use Rattle.std.specs.Borrow.{Bor}
use Rattle.std.specs.Prelude.{filter, map}
use Rattle.std.specs.List.{list_any}
use Rattle.sv_constraints.specs.Covering.{covers, covers_method, lists}
use Rattle.sv_constraints.specs.declared.constraint.Collection.{Collection}
use Rattle.sv_constraints.specs.declared.constraint.Constraint.{Constraint}
use Rattle.sv_constraints.specs.declared.constraint.Rules.{Rules}
use Rattle.sv_policy.specs.Entries.{entry_for}
use Rattle.sv_policy.specs.Merged.{IsMerged}
use Rattle.sv_policy.specs.Table.{IsTable}
use Rattle.sv_policy.specs.Uncovered.{differ}
use Rattle.sv_policy.specs.declared.table.Table.{Table}
use Rattle.sv_policy.proofs.Listed.{any_seen, covers_listed, length_seen}
use Rattle.sv_policy.specs.Likeness.{are_alike, tells_apart}
use Rattle.sv_policy.specs.Patterns.{lists_pattern}

first_false : (a b : Bool) → (a || b) ≡ false → a ≡ false
first_false true b h = h
first_false false b h = refl

second_false : (a b : Bool) → (a || b) ≡ false → b ≡ false
second_false true b h = absurd (false≢true (sym h))
second_false false b h = h

both_same : (a b : Bool) → differ a b ≡ false → a ≡ b
both_same true true h = refl
both_same true false h = absurd (false≢true (sym h))
both_same false true h = absurd (false≢true (sym h))
both_same false false h = refl

fails_before : (a b : Bool) → (a ≡ true → b ≡ true) → b ≡ false → a ≡ false
fails_before true b w is = absurd (false≢true (sym is ∙ w refl))
fails_before false b w is = refl

module _ (pattern other : List ℕ) where
  -- If each collection lists both patterns or neither, one of them lists the first exactly if one lists the other.
  listed_alike : (collections : List Collection) → list_any (λ c. differ (lists c.patterns pattern) (lists c.patterns other)) collections ≡ false
      → list_any (λ c. lists c.patterns pattern) collections ≡ list_any (λ c. lists c.patterns other) collections
  listed_alike [] alike = refl
  listed_alike (c ∷ cs) alike =
      ap₂ (λ a b. a || b)
      (both_same (lists c.patterns pattern) (lists c.patterns other) (first_false (differ (lists c.patterns pattern) (lists c.patterns other)) (list_any (λ d. differ (lists d.patterns pattern) (lists d.patterns other)) cs) alike))
      (listed_alike cs (second_false (differ (lists c.patterns pattern) (lists c.patterns other)) (list_any (λ d. differ (lists d.patterns pattern) (lists d.patterns other)) cs) alike))

  -- Such collections cover the same methods at both patterns.
  covered_alike : (method : List ℕ) (collections : List Collection) → list_any (λ c. differ (lists c.patterns pattern) (lists c.patterns other)) collections ≡ false
      → list_any (λ c. lists c.patterns pattern && covers_method c.methods method) collections ≡ list_any (λ c. lists c.patterns other && covers_method c.methods method) collections
  covered_alike method [] alike = refl
  covered_alike method (c ∷ cs) alike =
      ap₂ (λ a b. (a && covers_method c.methods method) || b)
      (both_same (lists c.patterns pattern) (lists c.patterns other) (first_false (differ (lists c.patterns pattern) (lists c.patterns other)) (list_any (λ d. differ (lists d.patterns pattern) (lists d.patterns other)) cs) alike))
      (covered_alike method cs (second_false (differ (lists c.patterns pattern) (lists c.patterns other)) (list_any (λ d. differ (lists d.patterns pattern) (lists d.patterns other)) cs) alike))

  abbrev on : Constraint → Bool
  on c = lists_pattern c pattern

  abbrev on_other : Constraint → Bool
  on_other c = lists_pattern c other

  abbrev apart : Constraint → Bool
  apart c = tells_apart c pattern other

  head_alike : (c : Constraint) (rest : List Constraint) (a : Bool) → a ≡ true → list_any apart (cond a (c ∷ rest) rest) ≡ false → apart c ≡ false
  head_alike c rest true is alike = first_false (apart c) (list_any apart rest) alike
  head_alike c rest false is alike = absurd (false≢true is)

  tail_alike : (c : Constraint) (rest : List Constraint) (a : Bool) → list_any apart (cond a (c ∷ rest) rest) ≡ false → list_any apart rest ≡ false
  tail_alike c rest true alike = second_false (apart c) (list_any apart rest) alike
  tail_alike c rest false alike = alike

  fewer_at : (c : Constraint) (ps qs : List Constraint) (a b : Bool) → (a ≡ true → b ≡ true) → length ps ≤ length qs → length (cond a (c ∷ ps) ps) ≤ length (cond b (c ∷ qs) qs)
  fewer_at c ps qs true true w fewer = omega (arith, fewer)
  fewer_at c ps qs true false w fewer = absurd (false≢true (w refl))
  fewer_at c ps qs false true w fewer = omega (arith, fewer)
  fewer_at c ps qs false false w fewer = fewer

  -- Constraints on the pattern that do not distinguish the two patterns are also on the other.
  fewer : (cs : List Constraint) → list_any apart (filter on cs) ≡ false → length (filter on cs) ≤ length (filter on_other cs)
  fewer [] alike = omega arith
  fewer (c ∷ cs) alike =
      fewer_at c (filter on cs) (filter on_other cs) (on c) (on_other c)
      (λ is. sym (listed_alike c.collections (head_alike c (filter on cs) (on c) is alike)) ∙ is)
      (fewer cs (tail_alike c (filter on cs) (on c) alike))

  module _ (method : List ℕ) where
    abbrev covering_at : List ℕ → List Constraint → List Constraint
    covering_at at cs = filter (λ c. covers c at method) cs

    one_more : (c : Constraint) (cs : List Constraint) → covers c pattern method ≡ covers c other method → covering_at pattern cs ≡ covering_at other cs → covering_at pattern (c ∷ cs) ≡ covering_at other (c ∷ cs)
    one_more c cs first rest = ap₂ (λ b ds. cond b (c ∷ ds) ds) first rest

    more_at : (c : Constraint) (cs : List Constraint) (a b : Bool) → on c ≡ a → on_other c ≡ b → list_any apart (cond a (c ∷ filter on cs) (filter on cs)) ≡ false
        → length (cond a (c ∷ filter on cs) (filter on cs)) ≡ length (cond b (c ∷ filter on_other cs) (filter on_other cs)) → length (filter on cs) ≤ length (filter on_other cs)
        → (length (filter on cs) ≡ length (filter on_other cs) → covering_at pattern cs ≡ covering_at other cs) → covering_at pattern (c ∷ cs) ≡ covering_at other (c ∷ cs)
    more_at c cs true true is is_other alike same below rest =
        one_more c cs (covered_alike method c.collections (head_alike c (filter on cs) true refl alike)) (rest (omega (arith, same)))
    more_at c cs true false is is_other alike same below rest =
        absurd (false≢true (sym is_other ∙ sym (listed_alike c.collections (head_alike c (filter on cs) true refl alike)) ∙ is))
    more_at c cs false true is is_other alike same below rest = let impossible : ⊥ = omega (arith, same, below) in absurd impossible
    more_at c cs false false is is_other alike same below rest =
        one_more c cs
        (fails_before (covers c pattern method) (on c) (covers_listed pattern method c) is ∙ sym (fails_before (covers c other method) (on_other c) (covers_listed other method c) is_other))
        (rest same)

    covering_alike : (cs : List Constraint) → list_any apart (filter on cs) ≡ false → length (filter on cs) ≡ length (filter on_other cs) → covering_at pattern cs ≡ covering_at other cs
    covering_alike [] alike same = refl
    covering_alike (c ∷ cs) alike same =
        more_at c cs (on c) (on_other c) refl refl alike same (fewer cs (tail_alike c (filter on cs) (on c) alike)) (covering_alike cs (tail_alike c (filter on cs) (on c) alike))

first_true : (a b : Bool) → (a && b) ≡ true → a ≡ true
first_true true b h = refl
first_true false b h = h

second_true : (a b : Bool) → (a && b) ≡ true → b ≡ true
second_true true b h = h
second_true false b h = absurd (false≢true h)

not_so : (a : Bool) → not a ≡ true → a ≡ false
not_so true h = absurd (false≢true h)
not_so false h = refl

same_count : (m n : ℕ) → (m == n) ≡ true → m ≡ n
same_count m n h = grind (arith, h)

-- The entries of one pattern are correct for the other.
pub table_alike : (rules : Rules) (constraints members others : List Constraint) (pattern : List ℕ) (other table : Table) → members ≡ filter (λ c. lists_pattern c pattern) constraints → others ≡ filter (λ c. lists_pattern c other.pattern) constraints
    → are_alike members others pattern other.pattern ≡ true → table.entries.value ≡ other.entries.value → table.pattern ≡ pattern → IsTable rules constraints other → IsTable rules constraints table
table_alike rules constraints members others pattern other table are are_others alike same is whole =
    let alike_here : are_alike (filter (λ c. lists_pattern c pattern) constraints) (filter (λ c. lists_pattern c other.pattern) constraints) pattern other.pattern ≡ true = ap₂ (λ ms os. are_alike ms os pattern other.pattern) (sym are) (sym are_others) ∙ alike in
    λ method.
    subst (λ p. IsMerged rules (filter (λ c. covers c p method) constraints) (entry_for table.entries.value method)) (sym is)
    (subst (λ entries. IsMerged rules (filter (λ c. covers c pattern method) constraints) (entry_for entries method)) (sym same)
    (subst (λ covering. IsMerged rules covering (entry_for other.entries.value method))
    (sym (covering_alike pattern other.pattern method constraints
    (not_so (list_any (λ c. tells_apart c pattern other.pattern) (filter (λ c. lists_pattern c pattern) constraints))
    (second_true (length (filter (λ c. lists_pattern c pattern) constraints) == length (filter (λ c. lists_pattern c other.pattern) constraints)) _ alike_here))
    (same_count (length (filter (λ c. lists_pattern c pattern) constraints)) (length (filter (λ c. lists_pattern c other.pattern) constraints))
    (first_true (length (filter (λ c. lists_pattern c pattern) constraints) == length (filter (λ c. lists_pattern c other.pattern) constraints)) _ alike_here))))
    (whole method)))

counts_same : (m n : ℕ) → m ≡ n → true ≡ (m == n)
counts_same m n h = grind (arith, h)

-- Referenced members, equally many on either side.
pub alike_is : (members others : List (Bor Constraint)) (pattern other : List ℕ) (told : Bool) → told ≡ list_any (λ member. tells_apart member.now pattern other) members → length members ≡ length others
    → not told ≡ are_alike (map (λ member. member.now) members) (map (λ member. member.now) others) pattern other
alike_is members others pattern other told is same =
    ap not (is ∙ sym (any_seen (λ member. tells_apart member pattern other) (λ member. member.now) members))
    ∙ ap (λ b. b && not (list_any (λ member. tells_apart member pattern other) (map (λ member. member.now) members)))
    (counts_same (length (map (λ member. member.now) members)) (length (map (λ member. member.now) others)) (length_seen (λ member. member.now) members ∙ same ∙ sym (length_seen (λ member. member.now) others)))
