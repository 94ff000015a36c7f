-- Constraints that let everyone in although others name roles (Jakarta Servlet 6.0, section 13.8.1).
use Rattle.std.specs.Prelude.{ℕ, Bool, not, ◌&&◌, ◌||◌, ◌==◌, nat_lt, List, [], filter, fold, map, Option, None, Some, is_some, if◌then◌else◌}
use Rattle.std.specs.List.{list_any}
use Rattle.std.specs.Option.{option_to_list}
use Rattle.sv_constraints.specs.Verdict.{is_open, least_where, permits_plain, precludes}
use Rattle.sv_constraints.specs.declared.constraint.Constraint.{Constraint}
use Rattle.sv_constraints.specs.declared.constraint.Methods.{Methods}
use Rattle.sv_constraints.specs.declared.constraint.Methods.TheVariants.{Except, Only}
use Rattle.sv_policy.specs.Covering.{covers_at, named_methods}
use Rattle.sv_policy.specs.Uncovered.{rising}
use Rattle.sv_findings.specs.declared.finding.Finding.{Finding}
use Rattle.sv_findings.specs.declared.finding.Finding.TheVariants as finding

-- The first numbers decide, then the second ones.
abbrev pub is_below : ℕ × ℕ → ℕ × ℕ → Bool
is_below pair other = nat_lt pair.0 other.0 || (pair.0 == other.0 && nat_lt pair.1 other.1)

-- The lesser of two pairs, or the only one present, if any.
abbrev pub lesser_pair : Option (ℕ × ℕ) → Option (ℕ × ℕ) → Option (ℕ × ℕ)
lesser_pair None other = other
lesser_pair (Some pair) None = Some pair
lesser_pair (Some pair) (Some other) = Some (if is_below other pair then other else pair)

-- Both numbers, if both are present.
abbrev pub pair_of : Option ℕ → Option ℕ → Option (ℕ × ℕ)
pair_of (Some number) (Some other) = Some (number, other)
pair_of number other = None

-- Whether there is an authorization constraint.
abbrev pub is_restricted : Constraint → Bool
is_restricted constraint = not (is_open constraint)

-- The least number of a constraint without an authorization constraint and the least one of a constraint with one, if
-- there are both and everyone passes: nobody is precluded, and a plain connection is sufficient.
abbrev pub opened_by : List Constraint → Option (ℕ × ℕ)
opened_by members =
    if is_some (least_where precludes members) || not (list_any permits_plain members) then None else pair_of (least_where is_open members) (least_where is_restricted members)

-- The same for the constraints that cover a method at the pattern or, without a method, the methods that are not named
-- there.
abbrev pub opened_for : List Constraint → List ℕ → Option (List ℕ) → Option (ℕ × ℕ)
opened_for constraints pattern method = opened_by (filter (λ constraint. covers_at constraint pattern method) constraints)

-- Whether everyone passes with the method although a constraint with an authorization constraint covers it.
abbrev pub is_opened : List Constraint → List ℕ → List ℕ → Bool
is_opened constraints pattern method = is_some (opened_for constraints pattern (Some method))

-- The least pair of all methods.
unfoldable pub opened_pair : List Constraint → List ℕ → Option (ℕ × ℕ)
opened_pair constraints pattern =
    lesser_pair (fold (λ least method. lesser_pair least (opened_for constraints pattern (Some method))) None (rising (named_methods constraints pattern))) (opened_for constraints pattern None)

-- The opened methods: all except the other named ones if those that are not named are opened, else the named ones.
unfoldable pub opened_methods : List Constraint → List ℕ → Methods
opened_methods constraints pattern =
    let named = rising (named_methods constraints pattern) in
    if is_some (opened_for constraints pattern None)
    then Except (filter (λ method. not (is_opened constraints pattern method)) named)
    else Only (filter (is_opened constraints pattern) named)

abbrev pub opened_on : List Constraint → List ℕ → List Finding
opened_on constraints pattern = map (λ pair. finding.Opened pattern (opened_methods constraints pattern) pair.0 pair.1) (option_to_list (opened_pair constraints pattern))

abbrev pub opened_at : List Constraint → Option (List ℕ) → List Finding
opened_at constraints None = []
opened_at constraints (Some pattern) = opened_on constraints pattern
