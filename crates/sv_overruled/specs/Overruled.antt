-- Constraints at a pattern without which each request there is decided alike (Jakarta Servlet 6.0, sections 13.8.1 and
-- 13.8.3).
use Rattle.std.specs.Prelude.{ℕ, Bool, not, ◌&&◌, ◌||◌, ◌==◌, nat_lt, List, length, filter, map, Option, None, Some}
use Rattle.std.specs.List.{flat_map, list_all, list_any}
use Rattle.sv_constraints.specs.Covering.{lists}
use Rattle.sv_constraints.specs.Verdict.{is_open, permits_plain, precludes}
use Rattle.sv_constraints.specs.declared.constraint.Constraint.{Constraint}
use Rattle.sv_constraints.specs.declared.constraint.Rules.{Rules}
use Rattle.sv_policy.specs.Covering.{covers_at, named_methods}
use Rattle.sv_policy.specs.Merged.{admits_everyone}
use Rattle.sv_policy.specs.Uncovered.{rising}
use Rattle.sv_audit.specs.Access.{roles_meant}
use Rattle.sv_overruled.specs.declared.overruled.TheConstants.{MAX_COMPARED_AT_PATTERN}

abbrev pub has_number : ℕ → Constraint → Bool
has_number number constraint = constraint.number == number

-- The constraints with other numbers.
abbrev pub others : ℕ → List Constraint → List Constraint
others number members = filter (λ member. not (has_number number member)) members

-- The roles that constraints mean.
abbrev pub all_meant : List (List ℕ) → List Constraint → List (List ℕ)
all_meant declared members = flat_map (λ member. roles_meant declared member.auth) members

-- Whether each role that the constraint means is among those that the others mean.
abbrev pub mean_its_roles : List (List ℕ) → Constraint → List Constraint → Bool
mean_its_roles declared constraint others = list_all (lists (all_meant declared others)) (roles_meant declared constraint.auth)

-- Whether the others admit each authenticated caller whom the constraint admits: one admits all, or they mean its roles.
abbrev pub admit_its_callers : List (List ℕ) → Constraint → List Constraint → Bool
admit_its_callers declared constraint others = list_any admits_everyone others || (not (admits_everyone constraint) && mean_its_roles declared constraint others)

-- The same for requests without a caller, too.
abbrev pub admit_no_less : List (List ℕ) → Constraint → List Constraint → Bool
admit_no_less declared constraint others = list_any is_open others || (not (is_open constraint) && admit_its_callers declared constraint others)

-- Whether a plain connection is sufficient for one of the others, if it is for the constraint.
abbrev pub permit_no_less : Constraint → List Constraint → Bool
permit_no_less constraint others = not (permits_plain constraint) || list_any permits_plain others

-- Whether requests that the constraint and the others cover are decided alike by the others: one of them precludes
-- everyone, or the constraint does not, and it opens nothing that the others do not open (section 13.8.1).
abbrev pub decide_alike : Rules → Constraint → List Constraint → Bool
decide_alike rules constraint others =
    not (length others == 0) && (list_any precludes others || (not (precludes constraint) && (permit_no_less constraint others && admit_no_less rules.declared constraint others)))

-- Whether, without the constraint with this number, the others decide requests differently that all of these cover.
abbrev pub matters_among : Rules → ℕ → List Constraint → Bool
matters_among rules number members = list_any (λ own. has_number number own && not (decide_alike rules own (others number members))) members

-- The same for a method at a pattern or, without a method, for the methods that are not named there.
abbrev pub matters_for : Rules → ℕ → List ℕ → List Constraint → Option (List ℕ) → Bool
matters_for rules number pattern members method = matters_among rules number (filter (λ member. covers_at member pattern method) members)

-- The same for all methods at the pattern. Many methods are not compared, and the constraint counts as one that matters.
unfoldable pub matters_on : Rules → ℕ → List ℕ → List Constraint → Bool
matters_on rules number pattern members =
    let named = rising (named_methods members pattern) in
    nat_lt MAX_COMPARED_AT_PATTERN (length named) || (list_any (λ method. matters_for rules number pattern members (Some method)) named || matters_for rules number pattern members None)

-- The same for the constraints that list the pattern. So does a constraint without others there, and many are not
-- compared, either.
abbrev pub matters_by : Rules → ℕ → List ℕ → List Constraint → Bool
matters_by rules number pattern members = length (others number members) == 0 || (nat_lt MAX_COMPARED_AT_PATTERN (length members) || matters_on rules number pattern members)

abbrev pub numbers_of : List Constraint → List ℕ
numbers_of members = map (λ member. member.number) members

-- The numbers of few constraints that list the pattern, if they change nothing there.
abbrev pub overruled_on : Rules → List ℕ → List Constraint → List ℕ
overruled_on rules pattern members = filter (λ number. not (length (others number members) == 0 || matters_on rules number pattern members)) (numbers_of members)

-- The numbers of the constraints that list the pattern, if they change nothing there.
abbrev pub overruled_at : Rules → List ℕ → List Constraint → List ℕ
overruled_at rules pattern members = filter (λ number. not (matters_by rules number pattern members)) (numbers_of members)
