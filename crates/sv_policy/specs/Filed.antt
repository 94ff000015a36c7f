-- Tables in the order of their patterns.
use Rattle.std.specs.Prelude.{◌≡◌, ℕ, List, Contains, map}
use Rattle.std.specs.Borrow.{Bor}
use Rattle.std.specs.List.{AllByRecursion}
use Rattle.sv_policy.specs.Uncovered.{rising}
use Rattle.sv_policy.specs.declared.table.Table.{Table}

-- The keys are the sorted patterns of `tables`. Each has a table with its pattern, which is in `all`.
pub record IsFiled (all tables : List Table) (entries : List (Bor (List ℕ) × Bor Table)) : Type 0 where
  pub texts : map (λ entry. entry.0.now) entries ≡ rising (map (λ table. table.pattern) tables)
  pub keyed : AllByRecursion (λ entry. entry.1.now.pattern ≡ entry.0.now) entries
  pub among : AllByRecursion (λ entry. Contains all entry.1.now) entries
