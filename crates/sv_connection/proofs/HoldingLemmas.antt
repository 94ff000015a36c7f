-- The bytes that connections hold.
use Rattle.std.proofs.Common.{◌≡◌, ℕ, ◌+◌, ◌-◌, ◌≤◌, ◌^◌, nat_eq, List, [], ◌∷◌, Option, Some, sym, ap, ◌∙◌, subst, arith}
use Rattle.std.proofs.Math.Nat.{min-le_right}
use Rattle.std.proofs.lemmas.List.Sums.{sum_by-cons}
use Rattle.std.proofs.lemmas.Map.Entries.{sum_by-remove_entry, sum_by-set_value, sum_by_puts_entry, sum_by_values_permutation}
use Rattle.std.specs.HashMap.{HashMap, PutsEntry, get}
use Rattle.std.specs.List.{fold, sum_by}
use Rattle.std.specs.List.Sorted.{IsPermutation}
use Rattle.std.specs.Map.{lookup, remove_entry, set_value, values_of}
use Rattle.sv_connection.specs.Holding.{IsWithin, StaysWithin, together, weight}
use Rattle.sv_connection.specs.Known.{Known}
use Rattle.sv_connection.specs.States.{ConnectionState}
use Rattle.sv_connection.specs.declared.limits.Limits.{Limits}

twice : (one other more : ℕ) → together (together one other) more ≡ together one (other + more)
twice one other more = omega arith

-- The count of many bytes is their sum, as far as it can be counted.
capped : {X : Type 0} (f : X → ℕ) (start : ℕ) (xs : List X) → start ≤ 2 ^ 64 - 1 → fold (λ sum x. together sum (f x)) start xs ≡ together start (sum_by f xs)
capped f start [] within = omega arith
capped f start (x ∷ xs) within =
    capped f (together start (f x)) xs (min-le_right (start + f x) (2 ^ 64 - 1)) ∙ twice start (f x) (sum_by f xs)
    ∙ ap (λ n. together start n) (sym (sum_by-cons f x xs))

module _ {S : Type 0} (limits : Limits) (next : ℕ) (accepted : Option S) where
  -- The sum of the bytes that connections hold.
  abbrev total : List (ℕ × ConnectionState S) → ℕ
  total entries = sum_by weight (values_of entries)

  -- The table of these connections.
  abbrev table : List (ℕ × ConnectionState S) → Known S
  table entries = record { limits = limits; next = next; accepted = accepted; entries = entries }

  lighter : (next_after : ℕ) (accepted_after : Option S) (entries entries_after : List (ℕ × ConnectionState S)) → total entries_after ≤ total entries
      → StaysWithin (table entries) (record { limits = limits; next = next_after; accepted = accepted_after; entries = entries_after })
  lighter next_after accepted_after entries entries_after less within =
      let before = capped (weight {S = S}) 0 (values_of entries) (omega arith) in
      let after = capped (weight {S = S}) 0 (values_of entries_after) (omega arith) in
      omega (arith, before, after, less, within)

  -- A connection that is open holds no more than before.
  pub no_heavier : (number : ℕ) (entries entries_after : List (ℕ × ConnectionState S)) (known : Known S) → table entries ≡ known → (at at_after : ConnectionState S)
      → entries_after ≡ set_value (nat_eq number) entries at_after → Some at ≡ lookup (nat_eq number) entries → weight at_after ≤ weight at
      → StaysWithin known (table entries_after)
  no_heavier number entries entries_after known view at at_after set is less within =
      let P : Known S → Type 0 = λ k. IsWithin k in
      let Q : List (ℕ × ConnectionState S) → Type 0 = λ es. IsWithin (table es) in
      let sums = sum_by-set_value weight (nat_eq number) entries at at_after (sym is) in
      subst Q (sym set) (lighter next accepted entries (set_value (nat_eq number) entries at_after) (omega (arith, sums, less)) (subst P (sym view) within))

  -- A connection was removed.
  pub one_gone : (number : ℕ) (entries entries_after : List (ℕ × ConnectionState S)) (known : Known S) → table entries ≡ known
      → IsPermutation (remove_entry (nat_eq number) entries) entries_after → StaysWithin known (table entries_after)
  one_gone number entries entries_after known view moved within =
      let P : Known S → Type 0 = λ k. IsWithin k in
      let rest = sum_by-remove_entry weight (nat_eq number) entries in
      let same = sum_by_values_permutation weight (remove_entry (nat_eq number) entries) entries_after moved in
      lighter next accepted entries entries_after (omega (arith, rest, same)) (subst P (sym view) within)

  -- A connection was opened, which holds nothing.
  pub one_opened : {H : Type 0} (next_after : ℕ) (accepted_after : Option S) (number : ℕ) (before after : HashMap ℕ (ConnectionState S) H) (known : Known S)
      → table before.entries ≡ known → (at : ConnectionState S) (old : Option (ConnectionState S)) → old ≡ get nat_eq before number
      → PutsEntry nat_eq before after number at old → weight at ≡ 0
      → StaysWithin known (record { limits = limits; next = next_after; accepted = accepted_after; entries = after.entries })
  one_opened next_after accepted_after number before after known view at old was puts none within =
      let P : Known S → Type 0 = λ k. IsWithin k in
      let sums = sum_by_puts_entry weight nat_eq before after number at old was puts in
      lighter next_after accepted_after before.entries after.entries (omega (arith, sums, none)) (subst P (sym view) within)
