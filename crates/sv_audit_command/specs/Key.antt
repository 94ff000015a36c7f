-- The keys of findings, by which an accepting file names them.
use Rattle.std.specs.Prelude.{ℕ, Bool, true, false, ◌||◌, List, [], ◌∷◌, ◌++◌, codes, filter, find, map, nat_eq, slice_get, Option, None, Some, option_and_then}
use Rattle.std.specs.List.{flat_map}
use Rattle.std.specs.Option.{option_map, option_map_or}
use Rattle.sv_findings.specs.declared.finding.Finding.{Finding}
use Rattle.sv_findings.specs.declared.finding.Finding.TheVariants.{Opened, Uncovered, ReadOtherwise, HeadDiffers, Dead, DeadPattern, Overruled, Unreached, Unserved, Escaped, LoginNeeds, UnknownRole, UnheldRole, UnusedRole}
use Rattle.sv_audit.specs.declared.access.Access.{Access}
use Rattle.sv_constraints.specs.Covering.{lists}
use Rattle.sv_constraints.specs.declared.constraint.Auth.{Auth}
use Rattle.sv_constraints.specs.declared.constraint.Auth.TheVariants as auth
use Rattle.sv_constraints.specs.declared.constraint.Constraint.{Constraint}
use Rattle.sv_constraints.specs.declared.constraint.Methods.{Methods}
use Rattle.sv_mapping.specs.BestMatch.{best_pattern}
use Rattle.sv_policy.specs.Patterns.{lists_pattern}
use Rattle.sv_program.specs.Uncovered.{names_text}
use Rattle.sv_report.specs.Escaped.{escaped}
use Rattle.sv_report.specs.FindingWords.{kind_name}
use Rattle.sv_uri.specs.ContextPath.{shown_context}
use Rattle.sv_audit_command.specs.KeyWords.{access_text, word}
use Rattle.sv_audit_command.specs.MethodsKey.{methods_key}

-- The first constraint with this number.
abbrev pub constraint_numbered : List Constraint → ℕ → Option Constraint
constraint_numbered constraints number = find (λ constraint. nat_eq constraint.number number) constraints

-- The words of its patterns.
abbrev pub words_of : Constraint → List (List ℕ)
words_of constraint = flat_map (λ collection. map word collection.patterns) constraint.collections

-- The patterns of a constraint, separated by commas.
abbrev pub patterns_text : List Constraint → ℕ → List ℕ
patterns_text constraints number = option_map_or (λ constraint. names_text (words_of constraint)) (constraint_numbered constraints number) []

-- A pattern and methods.
abbrev pub covered_subject : List ℕ → Methods → List ℕ
covered_subject pattern methods = word pattern ++ codes " " ++ methods_key methods

-- The same, and the pattern that decides on other servers.
abbrev pub otherwise_subject : List ℕ → Methods → List ℕ → List ℕ
otherwise_subject pattern methods other = covered_subject pattern methods ++ codes " " ++ word other

-- A pattern, and who may use GET and HEAD there.
abbrev pub heads_subject : List ℕ → Access → Access → List ℕ
heads_subject pattern get head = word pattern ++ codes " GET " ++ access_text get ++ codes " HEAD " ++ access_text head

-- What the finding is about: a pattern, with what it opens if it does, the patterns of a constraint, a path, or a role.
abbrev pub subject : List Constraint → Finding → List ℕ
subject constraints (Opened pattern methods number other) = covered_subject pattern methods
subject constraints (Uncovered pattern methods) = covered_subject pattern methods
subject constraints (ReadOtherwise pattern methods other) = otherwise_subject pattern methods other
subject constraints (HeadDiffers pattern get head) = heads_subject pattern get head
subject constraints (Dead number) = patterns_text constraints number
subject constraints (DeadPattern number pattern) = word pattern
subject constraints (Overruled number) = patterns_text constraints number
subject constraints (Unreached number pattern) = word pattern
subject constraints (Unserved number pattern) = word pattern
subject constraints (Escaped number pattern) = word pattern
subject constraints (LoginNeeds path) = word path
subject constraints (UnknownRole number role) = word role
subject constraints (UnheldRole role) = word role
subject constraints (UnusedRole role) = word role

-- `CONTEXT KIND SUBJECT`, on one line.
abbrev pub key_of : List ℕ → List Constraint → Finding → List ℕ
key_of path constraints finding = escaped (word (shown_context path) ++ codes " " ++ kind_name finding ++ codes " " ++ subject constraints finding)

-- The number of the first of constraints.
abbrev pub first_number : List Constraint → Option ℕ
first_number constraints = option_map (λ constraint. constraint.number) (slice_get constraints 0)

-- The number of the first constraint that lists the pattern.
abbrev pub first_with : List Constraint → List ℕ → Option ℕ
first_with constraints pattern = first_number (filter (λ constraint. lists_pattern constraint pattern) constraints)

-- The number of the first constraint that lists the best match for the path among the patterns (section 12.1).
abbrev pub first_at : List Constraint → List (List ℕ) → List ℕ → Option ℕ
first_at constraints patterns path = option_and_then (first_with constraints) (best_pattern patterns path)

-- Whether an authorization constraint names the role, or all declared roles (section 13.8.1).
abbrev pub names_role : Auth → List ℕ → Bool
names_role auth.Absent role = false
names_role (auth.Roles names) role = lists names role || lists names (codes "*")

-- The number of the first constraint that names the role.
abbrev pub first_naming : List Constraint → List ℕ → Option ℕ
first_naming constraints role = option_map (λ constraint. constraint.number) (find (λ constraint. names_role constraint.auth role) constraints)

-- The constraint to change: that of the finding, or the first one that has its pattern, names its role, or has the best
-- match for its path among the patterns.
abbrev pub constraint_of : List Constraint → List (List ℕ) → Finding → Option ℕ
constraint_of constraints patterns (Opened pattern methods number other) = Some number
constraint_of constraints patterns (Uncovered pattern methods) = first_with constraints pattern
constraint_of constraints patterns (ReadOtherwise pattern methods other) = first_with constraints pattern
constraint_of constraints patterns (HeadDiffers pattern get head) = first_with constraints pattern
constraint_of constraints patterns (Dead number) = Some number
constraint_of constraints patterns (DeadPattern number pattern) = Some number
constraint_of constraints patterns (Overruled number) = Some number
constraint_of constraints patterns (Unreached number pattern) = Some number
constraint_of constraints patterns (Unserved number pattern) = Some number
constraint_of constraints patterns (Escaped number pattern) = Some number
constraint_of constraints patterns (LoginNeeds path) = first_at constraints patterns path
constraint_of constraints patterns (UnknownRole number role) = Some number
constraint_of constraints patterns (UnheldRole role) = first_naming constraints role
constraint_of constraints patterns (UnusedRole role) = None
