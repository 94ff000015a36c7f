-- The constraints on a pattern, merged by method (Jakarta Servlet 6.0, section 13.8.1).
use Rattle.std.specs.Prelude.{◌≡◌, ℕ, false, List, String, filter, Option, MatchOption, unwrap_or}
use Rattle.std.proofs.Common.{Global}
use Rattle.std.specs.BTreeMap.{BTreeMap, get_by_text}
use Rattle.std.specs.Option.{option_map}
use Rattle.std.specs.declared.boxed.Box.{Box}
use Rattle.sv_constraints.specs.Covering.{covers, lists}
use Rattle.sv_constraints.specs.declared.constraint.Constraint.{Constraint}
use Rattle.sv_constraints.specs.declared.constraint.Rules.{Rules}
use Rattle.sv_policy.specs.Merged.{IsMerged}
use Rattle.sv_policy.specs.declared.entries.Entries.{Entries}
use Rattle.sv_policy.specs.declared.merged.Merged.{Merged}

-- Each of the methods has an entry, and each entry is the merge of the constraints that cover its method at the
-- pattern.
abbrev pub HasEntries : Rules → List Constraint → List ℕ → (List ℕ → Option Merged) → List (List ℕ) → Type 0
HasEntries rules constraints pattern get methods = (method : List ℕ) → MatchOption (get method)
    (lists methods method ≡ false)
    (IsMerged rules (filter (λ constraint. covers constraint pattern method) constraints))

-- The stored entry of the method, if any.
abbrev pub entry_in : BTreeMap (String Global) (Box Merged Global) → List ℕ → Option Merged
entry_in methods method = option_map (λ entry. entry.value) (get_by_text methods method)

-- The entry of the method, or the entry for all other methods.
abbrev pub entry_for : Entries → List ℕ → Merged
entry_for entries method = unwrap_or (entry_in entries.methods method) entries.rest

-- The entry of every method is the merge of the constraints that cover it at the pattern.
abbrev pub AreEntries : Rules → List Constraint → List ℕ → Entries → Type 0
AreEntries rules constraints pattern entries = (method : List ℕ) → IsMerged rules (filter (λ constraint. covers constraint pattern method) constraints) (entry_for entries method)
