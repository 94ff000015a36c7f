-- The methods that no constraint covers at a pattern (Jakarta Servlet 6.0, section 13.8.4).
use Rattle.std.specs.Prelude.{ℕ, Bool, true, not, ◌==◌, List, [], length, filter, fold, Some, is_none, if◌then◌else◌}
use Rattle.std.specs.BTreeSet.{insert_key}
use Rattle.std.specs.Cmp.Lexicographic.{slice_cmp}
use Rattle.std.specs.List.{list_any}
use Rattle.std.specs.List.Sorted.{IsStrictlySortedBy}
use Rattle.std.specs.Ordering.{nat_cmp}
use Rattle.sv_constraints.specs.Covering.{covering}
use Rattle.sv_constraints.specs.declared.constraint.Constraint.{Constraint}
use Rattle.sv_constraints.specs.declared.constraint.Methods.{Methods}
use Rattle.sv_constraints.specs.declared.constraint.Methods.TheVariants.{All, Only, Except}
use Rattle.sv_policy.specs.Covering.{covers_unnamed, named_methods}
use Rattle.sv_policy.specs.declared.merged.Merged.{Merged}

-- The texts in byte order, without duplicates.
abbrev pub rising : List (List ℕ) → List (List ℕ)
rising texts = fold (insert_key (slice_cmp nat_cmp)) [] texts

abbrev pub IsRising : List (List ℕ) → Type 0
IsRising texts = IsStrictlySortedBy (slice_cmp nat_cmp) texts

-- Whether no constraint covers the method at the pattern.
abbrev pub is_uncovered : List Constraint → List ℕ → List ℕ → Bool
is_uncovered constraints pattern method = length (covering constraints (Some pattern) method) == 0

-- Whether no constraint covers the methods that none of them names there.
abbrev pub are_others_uncovered : List Constraint → List ℕ → Bool
are_others_uncovered constraints pattern = not (list_any (λ constraint. covers_unnamed constraint pattern) constraints)

-- The uncovered methods: all except the covered ones among the named methods, or only the uncovered ones among them.
abbrev pub uncovered_methods : List Constraint → List ℕ → Methods
uncovered_methods constraints pattern =
    let named = rising (named_methods constraints pattern) in
    if are_others_uncovered constraints pattern
    then Except (filter (λ method. not (is_uncovered constraints pattern method)) named)
    else Only (filter (is_uncovered constraints pattern) named)

-- Whether there are any such methods.
abbrev pub has_methods : Methods → Bool
has_methods All = true
has_methods (Only methods) = not (length methods == 0)
has_methods (Except methods) = true

-- Whether exactly one of the two is true.
abbrev pub differ : Bool → Bool → Bool
differ a b = if a then not b else b

-- Whether no constraint was merged into an entry.
abbrev pub is_bare : Merged → Bool
is_bare merged = is_none merged.found.covering
