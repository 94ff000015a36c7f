-- The additions of a report to the rows of an access table (Jakarta Servlet 6.0, sections 12.1 and 13.8).
use Rattle.std.specs.Prelude.{ℕ, false, not, nat_lt, List, [], filter, length, map, Option, None, Some, option_and_then, if◌then◌else◌}
use Rattle.std.specs.List.{flat_map}
use Rattle.std.specs.Option.{option_to_list}
use Rattle.sv_audit.specs.Examples as examples
use Rattle.sv_audit.specs.Narrower.{narrower}
use Rattle.sv_audit.specs.Shapes.{matches_nothing}
use Rattle.sv_audit.specs.declared.narrower_patterns.Narrower.{Narrower}
use Rattle.sv_audit.specs.declared.rows.Row.{Row}
use Rattle.sv_findings.specs.MetRows.{row_reach}
use Rattle.sv_findings.specs.declared.reach.Reach.{Reach}
use Rattle.sv_findings.specs.declared.reach.Reach.TheVariants.{Reached}
use Rattle.sv_report.specs.declared.report.ReportedRow.{ReportedRow}
use Rattle.sv_audit_command.specs.ContextPatterns.{servlet_at}
use Rattle.sv_audit_command.specs.RowAnswers.{answered_paths, answers_at}
use Rattle.sv_audit_command.specs.declared.context_patterns.ContextPatterns.{ContextPatterns}
use Rattle.sv_audit_command.specs.declared.row_answers.AnsweredPaths.{AnsweredPaths}
use Rattle.sv_audit_command.specs.declared.row_paths.TheConstants.{MAX_COMPARED_PATTERNS, MAX_NARROWER}

-- The servlet that answers the example, if there is one.
abbrev pub servlet_of : ContextPatterns → Option (List ℕ) → Option (List ℕ)
servlet_of patterns path = option_and_then (servlet_at patterns) path

abbrev pub none_listed : Narrower
none_listed = record { patterns = []; are_all = false }

-- The first patterns that are chosen before this one, unless the table is large.
abbrev pub narrower_in : List (List ℕ) → List ℕ → Narrower
narrower_in others pattern = if nat_lt MAX_COMPARED_PATTERNS (length others) then none_listed else narrower others pattern MAX_NARROWER

abbrev pub narrower_of : List (List ℕ) → Option (List ℕ) → Narrower
narrower_of others None = none_listed
narrower_of others (Some pattern) = narrower_in others pattern

-- Whether requests meet a pattern, given the paths of all contexts and of this one, and the patterns of its constraints.
-- Without a pattern they do.
abbrev pub reach_at : List (List ℕ) × List ℕ → List (List ℕ) → Option (List ℕ) → Reach
reach_at reaches listed None = Reached
reach_at reaches listed (Some pattern) = row_reach reaches.0 reaches.1 listed pattern

-- A row with an example outside of nested contexts, the servlet that answers it, what answers the paths of the row, the
-- patterns that are chosen before that of the row, and whether requests meet it.
abbrev pub reported_row : ContextPatterns → Option AnsweredPaths → List (List ℕ) → List (List ℕ) × List ℕ → List (List ℕ) → List (List ℕ) → Row → ReportedRow
reported_row patterns answered others reaches listed nested its_row = record {
  row = its_row;
  example = examples.example patterns.constraints nested its_row.pattern;
  servlet = servlet_of patterns (examples.example patterns.constraints nested its_row.pattern);
  answers = answers_at answered its_row.pattern;
  narrower = narrower_of others its_row.pattern;
  reach = reach_at reaches listed its_row.pattern;
}

-- The pattern of a row, if it matches some canonical path.
abbrev pub row_pattern : Row → List (List ℕ)
row_pattern row = filter (λ pattern. not (matches_nothing pattern)) (option_to_list row.pattern)

abbrev pub row_patterns : List Row → List (List ℕ)
row_patterns rows = flat_map row_pattern rows

abbrev pub reported_rows : ContextPatterns → List (List ℕ) × List ℕ → List (List ℕ) → List (List ℕ) → List Row → List ReportedRow
reported_rows patterns reaches listed nested rows = map (reported_row patterns (answered_paths patterns) (row_patterns rows) reaches listed nested) rows
