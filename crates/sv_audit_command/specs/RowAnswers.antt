-- What answers the paths of a row: servlets, or files (Jakarta Servlet 6.0, sections 12.1 and 12.2).
use Rattle.std.specs.Prelude.{◌≡◌, ◌≤◌, ℕ, ◌+◌, Bool, false, not, List, length, filter, map, Option, None, Some, is_some, option_map, if◌then◌else◌, IsTrue}
use Rattle.std.specs.List.{list_any}
use Rattle.sv_audit.specs.Reading.{is_same}
use Rattle.sv_audit.specs.Shapes.{IsServed, matches_nothing}
use Rattle.sv_constraints.specs.Covering.{all_patterns, lists}
use Rattle.sv_constraints.specs.declared.constraint.Constraint.{Constraint}
use Rattle.sv_descriptor.specs.declared.servlet.ServletMapping.{ServletMapping}
use Rattle.sv_mapping.specs.BestMatch.{best_pattern}
use Rattle.sv_mapping.specs.Segments.{is_rooted}
use Rattle.sv_policy.specs.Uncovered.{rising}
use Rattle.sv_report.specs.declared.report.Answers.{Answers}
use Rattle.sv_audited_contexts.specs.ServletPatterns.{mapped_patterns}
use Rattle.sv_audit_command.specs.ContextPatterns.{context_patterns, servlet_at}
use Rattle.sv_audit_command.specs.declared.context_patterns.ContextPatterns.{ContextPatterns}
use Rattle.sv_audit_command.specs.declared.context_patterns.TheConstants.{MAX_ANSWERED_PATTERNS}
use Rattle.sv_audit_command.specs.declared.row_answers.AnsweredPath.{AnsweredPath}
use Rattle.sv_audit_command.specs.declared.row_answers.AnsweredPaths.{AnsweredPaths}

-- A path, by the pattern of its row and the servlet that answers it.
abbrev pub answered_path : ContextPatterns → List ℕ → AnsweredPath
answered_path patterns path = record { pattern = best_pattern patterns.constraints path; servlet = servlet_at patterns path }

-- Whether the pattern matches no canonical path (section 3.5.2).
abbrev pub is_pathless : Option (List ℕ) → Bool
is_pathless None = false
is_pathless (Some pattern) = matches_nothing pattern

-- Whether files answer the path, or a servlet whose pattern matches a canonical path.
abbrev pub is_answered : ContextPatterns → List ℕ → Bool
is_answered patterns path = not (is_pathless (best_pattern patterns.servlets path))

abbrev pub answered_among : ContextPatterns → List (List ℕ) → AnsweredPaths
answered_among patterns its_paths = record { names = rising patterns.names; paths = map (answered_path patterns) (filter (is_answered patterns) its_paths) }

-- What answers the paths of a context, unless it has too many patterns.
abbrev pub answered_paths : ContextPatterns → Option AnsweredPaths
answered_paths patterns = option_map (answered_among patterns) patterns.paths

-- Whether the path is of the row with the pattern.
abbrev pub is_at : Option (List ℕ) → AnsweredPath → Bool
is_at pattern path = is_same path.pattern pattern

-- Whether the servlet answers one of the paths. Without a servlet, whether files do.
abbrev pub have_answer : List AnsweredPath → Option (List ℕ) → Bool
have_answer paths servlet = list_any (λ path. is_same path.servlet servlet) paths

abbrev pub answers_of : List (List ℕ) → List AnsweredPath → Answers
answers_of names paths = record { servlets = filter (λ name. have_answer paths (Some name)) names; has_files = have_answer paths None }

abbrev pub answers_among : Option (List ℕ) → AnsweredPaths → Answers
answers_among pattern answered = answers_of answered.names (filter (is_at pattern) answered.paths)

-- What answers the paths of the row with the pattern, if it has any.
abbrev pub answers_at : Option AnsweredPaths → Option (List ℕ) → Option Answers
answers_at answered pattern = if is_pathless pattern then None else option_map (answers_among pattern) answered

-- The same, of constraints and servlets.
abbrev pub answers_in : List Constraint → List ServletMapping → Option (List ℕ) → Option Answers
answers_in constraints mappings pattern = answers_at (answered_paths (context_patterns constraints mappings)) pattern

abbrev pub servlet_in : List Constraint → List ServletMapping → List ℕ → Option (List ℕ)
servlet_in constraints mappings path = servlet_at (context_patterns constraints mappings) path

-- Whether the servlet is among the answers. Without a servlet, whether files are.
abbrev pub includes : Answers → Option (List ℕ) → Bool
includes answers None = answers.has_files
includes answers (Some name) = lists answers.servlets name

-- What answers a path that a context serves is among the answers of its row.
abbrev pub AnswersAreComplete : Type 0
AnswersAreComplete = (constraints : List Constraint) (mappings : List ServletMapping) (answers : Answers) (path : List ℕ) → IsServed path
    → answers_in constraints mappings (best_pattern (all_patterns constraints) path) ≡ Some answers → IsTrue (includes answers (servlet_in constraints mappings path))

-- Each of the answers of a row is what answers one of its paths. The patterns of the row and of the servlet match canonical
-- paths.
abbrev pub AnswersAreRight : Type 0
AnswersAreRight = (constraints : List Constraint) (mappings : List ServletMapping) (pattern : Option (List ℕ)) (answers : Answers) (servlet : Option (List ℕ))
    → answers_in constraints mappings pattern ≡ Some answers → IsTrue (includes answers servlet)
    → (path : List ℕ) × IsTrue (is_rooted path) × (best_pattern (all_patterns constraints) path ≡ pattern) × (servlet_in constraints mappings path ≡ servlet)
    × (is_pathless pattern ≡ false) × (is_pathless (best_pattern (mapped_patterns mappings) path) ≡ false)

-- Answers are listed unless there are too many patterns, or the row has no canonical path.
abbrev pub AnswersAreListed : Type 0
AnswersAreListed = (constraints : List Constraint) (mappings : List ServletMapping) (pattern : Option (List ℕ))
    → length (all_patterns constraints) + length (mapped_patterns mappings) ≤ MAX_ANSWERED_PATTERNS → is_pathless pattern ≡ false → IsTrue (is_some (answers_in constraints mappings pattern))
