-- Findings in words: the kind of each, what it is, and what to write.
use Rattle.std.specs.Prelude.{ℕ, Bool, List, [], ◌∷◌, codes, Some, if◌then◌else◌}
use Rattle.sv_constraints.specs.declared.constraint.Methods.{Methods}
use Rattle.sv_findings.specs.declared.finding.Finding.{Finding}
use Rattle.sv_findings.specs.declared.finding.Finding.TheVariants.{Opened, Uncovered, ReadOtherwise, HeadDiffers, Dead, DeadPattern, Overruled, Unreached, Unserved, Escaped, LoginNeeds, UnknownRole, UnheldRole, UnusedRole}
use Rattle.sv_findings.specs.declared.unsearched.Unsearched.{Unsearched}
use Rattle.sv_findings.specs.declared.unsearched.Unsearched.TheVariants as unsearched
use Rattle.sv_report.specs.Escaped.{escaped}
use Rattle.sv_report.specs.Parts.{joined}
use Rattle.sv_report.specs.Places.{number_text}
use Rattle.sv_report.specs.Words.{methods_text, pattern_text, who_text}
use Rattle.sv_audit.specs.declared.access.Access.{Access}

abbrev pub kind_name : Finding → List ℕ
kind_name (Opened pattern methods opening guarded) = codes "open"
kind_name (Uncovered pattern methods) = codes "uncovered"
kind_name (ReadOtherwise pattern methods other) = codes "read-otherwise"
kind_name (HeadDiffers pattern get head) = codes "head-differs"
kind_name (Dead number) = codes "dead"
kind_name (DeadPattern number pattern) = codes "dead-pattern"
kind_name (Overruled number) = codes "overruled"
kind_name (Unreached number pattern) = codes "unreached"
kind_name (Unserved number pattern) = codes "unserved"
kind_name (Escaped number pattern) = codes "escaped"
kind_name (LoginNeeds path) = codes "login-needs"
kind_name (UnknownRole number role) = codes "unknown-role"
kind_name (UnheldRole role) = codes "unheld-role"
kind_name (UnusedRole role) = codes "unused-role"

abbrev pub opened_text : List ℕ → Methods → ℕ → ℕ → List ℕ
opened_text pattern methods opening guarded = joined (
    codes "constraint " ∷ number_text opening ∷ codes " opens to everyone what constraint " ∷ number_text guarded ∷ codes " restricts at "
    ∷ pattern_text (Some pattern) ∷ codes ": " ∷ methods_text methods ∷ [])

abbrev pub uncovered_text : List ℕ → Methods → List ℕ
uncovered_text pattern methods = joined (codes "uncovered at " ∷ pattern_text (Some pattern) ∷ codes ": " ∷ methods_text methods ∷ [])

abbrev pub read_text : List ℕ → Methods → List ℕ → List ℕ
read_text pattern methods other = joined (
    codes "Tomcat decides by " ∷ pattern_text (Some other) ∷ codes " what is uncovered at " ∷ pattern_text (Some pattern) ∷ codes ": " ∷ methods_text methods ∷ [])

-- The callers to whom GET and HEAD are open.
abbrev pub head_text : Bool → List ℕ → Access → Access → List ℕ
head_text has_login pattern get head = joined (
    codes "GET and HEAD differ at " ∷ pattern_text (Some pattern) ∷ codes ": GET " ∷ who_text has_login get ∷ codes "; HEAD " ∷ who_text has_login head ∷ [])

abbrev pub dead_text : ℕ → List ℕ
dead_text number = joined (codes "constraint " ∷ number_text number ∷ codes " covers no request" ∷ [])

abbrev pub overruled_text : ℕ → List ℕ
overruled_text number = joined (codes "constraint " ∷ number_text number ∷ codes " changes nothing: the others at its patterns decide each request alike" ∷ [])

-- A constraint, words, and one of its patterns.
unfoldable pub pattern_of : ℕ → List ℕ → List ℕ → List ℕ
pattern_of number words pattern = joined (codes "constraint " ∷ number_text number ∷ words ∷ pattern_text (Some pattern) ∷ [])

abbrev pub unserved_text : List ℕ → List ℕ
unserved_text pattern = joined (codes "nothing answers at " ∷ pattern_text (Some pattern) ∷ [])

abbrev pub login_text : List ℕ → List ℕ
login_text path = joined (codes "the login page needs " ∷ escaped path ∷ codes ", which not everyone may GET" ∷ [])

abbrev pub unknown_role_text : ℕ → List ℕ → List ℕ
unknown_role_text number role = joined (codes "constraint " ∷ number_text number ∷ codes " names the undeclared role " ∷ escaped role ∷ [])

abbrev pub role_text : List ℕ → List ℕ → List ℕ
role_text words role = joined (words ∷ escaped role ∷ [])

-- What a finding is.
abbrev pub problem_text : Bool → Finding → List ℕ
problem_text has_login (Opened pattern methods opening guarded) = opened_text pattern methods opening guarded
problem_text has_login (Uncovered pattern methods) = uncovered_text pattern methods
problem_text has_login (ReadOtherwise pattern methods other) = read_text pattern methods other
problem_text has_login (HeadDiffers pattern get head) = head_text has_login pattern get head
problem_text has_login (Dead number) = dead_text number
problem_text has_login (DeadPattern number pattern) = pattern_of number (codes " covers no request at ") pattern
problem_text has_login (Overruled number) = overruled_text number
problem_text has_login (Unreached number pattern) = pattern_of number (codes " covers no request at ") pattern
problem_text has_login (Unserved number pattern) = unserved_text pattern
problem_text has_login (Escaped number pattern) = pattern_of number (codes " has a percent sign in ") pattern
problem_text has_login (LoginNeeds path) = login_text path
problem_text has_login (UnknownRole number role) = unknown_role_text number role
problem_text has_login (UnheldRole role) = role_text (codes "no user has the role ") role
problem_text has_login (UnusedRole role) = role_text (codes "no constraint names the role ") role

-- What to write in the descriptor.
abbrev pub remedy : Finding → List ℕ
remedy (Opened pattern methods opening guarded) = codes "Name roles in both, or take the pattern out of one of them."
remedy (Uncovered pattern methods) = codes "Cover all methods there, or set deny-uncovered-http-methods."
remedy (ReadOtherwise pattern methods other) = codes "Cover all methods at the prefix, so that both decide alike."
remedy (HeadDiffers pattern get head) = codes "Name both GET and HEAD, or neither, in each collection."
remedy (Dead number) = codes "No path matches its patterns, or others are chosen before them. Change them, or remove it."
remedy (DeadPattern number pattern) = codes "No path matches it, or another pattern is chosen before it. Change it, or remove it."
remedy (Overruled number) = codes "Remove it alone and audit again, or say what it should restrict."
remedy (Unreached number pattern) = codes "Its paths are hidden, or belong to another context. Remove the pattern."
remedy (Unserved number pattern) = codes "No servlet or file has such a path. Remove or correct the pattern, or add the file."
remedy (Escaped number pattern) = codes "Patterns are compared with decoded paths. Write the character itself."
remedy (LoginNeeds path) = codes "Let everyone GET it, or begin the reference with / and name a file that everyone may GET."
remedy (UnknownRole number role) = codes "Declare it in a security-role, or correct the name."
remedy (UnheldRole role) = codes "Give it to a user, or correct the name in the constraints."
remedy (UnusedRole role) = codes "Name it in a constraint, or remove its security-role."

abbrev pub heading : Bool → List ℕ
heading is_accepted = if is_accepted then codes "accepted" else codes "finding"

-- The findings that are not looked for in a context that is too large, and why.
abbrev pub unsearched_text : Unsearched → List ℕ
unsearched_text unsearched.Overruled = codes "overruled constraints, since a pattern has more than 16 constraints or 16 named methods"
unsearched_text unsearched.Unserved = codes "unserved patterns, since there are more than 2000 patterns"

-- The name of their kind.
abbrev pub unsearched_name : Unsearched → List ℕ
unsearched_name unsearched.Overruled = codes "overruled"
unsearched_name unsearched.Unserved = codes "unserved"
