-- Constraints without which each request is decided alike (Jakarta Servlet 6.0, sections 13.8.1 and 13.8.3).
use Rattle.std.specs.Prelude.{◌≡◌, ℕ, Bool, not, ◌&&◌, ◌==◌, List, [], ◌∷◌, length, filter, if◌then◌else◌, Vec}
use Rattle.std.specs.Borrow.{Bor}
use Rattle.std.proofs.Common.{Global}
use Rattle.std.specs.HashMap.{HashMap, get_by}
use Rattle.std.specs.List.{flat_map, list_all, list_any}
use Rattle.std.specs.Option.{option_map_or, unwrap_or}
use Rattle.std.specs.Str.{bytes_eq}
use Rattle.sv_constraints.specs.Covering.{all_patterns, patterns_in}
use Rattle.sv_constraints.specs.declared.constraint.Constraint.{Constraint}
use Rattle.sv_constraints.specs.declared.constraint.Rules.{Rules}
use Rattle.sv_policy.specs.Patterns.{lists_pattern}
use Rattle.sv_overruled.specs.Overruled.{overruled_at}
use Rattle.sv_findings.specs.Dead.{decides_nothing}
use Rattle.sv_findings.specs.declared.finding.Finding.{Finding}
use Rattle.sv_findings.specs.declared.finding.Finding.TheVariants as finding
use Rattle.sv_findings.specs.declared.overruled.OverruledByPattern.{OverruledByPattern}
use Rattle.sv_findings.specs.declared.surroundings.Surroundings.{Surroundings}

-- The numbers of the constraints that change nothing at the pattern.
abbrev pub numbers_at : Rules → List Constraint → List ℕ → List ℕ
numbers_at rules constraints pattern = overruled_at rules pattern (filter (λ constraint. lists_pattern constraint pattern) constraints)

-- Whether the constraint with this number is one that changes nothing at the pattern.
abbrev pub is_overruled_at : Rules → List Constraint → ℕ → List ℕ → Bool
is_overruled_at rules constraints number pattern = list_any (λ its_number. its_number == number) (numbers_at rules constraints pattern)

-- What is entered for a pattern, and whether it is right for each.
abbrev pub numbers_in : {S : Type 0} → HashMap (Bor (List ℕ)) (Vec ℕ Global) S → List ℕ → List ℕ
numbers_in entered pattern = option_map_or (λ numbers. numbers.items) (get_by (λ key. bytes_eq pattern key.now) entered) []

abbrev pub AreOverruled : Rules → List Constraint → OverruledByPattern → Type 0
AreOverruled rules constraints overruled = (pattern : List ℕ) → numbers_in overruled.numbers pattern ≡ numbers_at rules constraints pattern

-- The patterns of the constraint that may decide.
abbrev pub deciding_patterns : List (List ℕ) → Constraint → List (List ℕ)
deciding_patterns patterns constraint = filter (λ pattern. not (decides_nothing patterns pattern)) (patterns_in constraint)

-- Whether the constraint has patterns that may decide, and changes nothing at any of them.
abbrev pub is_overruled : Rules → List Constraint → List (List ℕ) → Constraint → Bool
is_overruled rules constraints patterns constraint =
    let deciding = deciding_patterns patterns constraint in
    not (length deciding == 0) && list_all (is_overruled_at rules constraints constraint.number) deciding

abbrev pub overruled_in : Rules → List Constraint → List (List ℕ) → Constraint → List Finding
overruled_in rules constraints patterns constraint = if is_overruled rules constraints patterns constraint then finding.Overruled constraint.number ∷ [] else []

-- The constraints that are compared with each other: those with their transport requirements.
abbrev pub compared : Surroundings → List Constraint → List Constraint
compared surroundings constraints = unwrap_or surroundings.with_transport constraints

abbrev pub overruled : Rules → List Constraint → List Finding
overruled rules constraints = flat_map (overruled_in rules constraints (all_patterns constraints)) constraints
