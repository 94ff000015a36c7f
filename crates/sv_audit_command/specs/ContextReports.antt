-- The report on a context (Jakarta Servlet 6.0, section 13.8).
use Rattle.std.specs.Prelude.{ℕ, ◌+◌, List, [], ◌∷◌, map, position, Option, None, Some, option_and_then, if◌then◌else◌}
use Rattle.std.specs.List.{flat_map}
use Rattle.std.specs.Str.{bytes_eq}
use Rattle.sv_constraints.specs.Covering.{all_patterns}
use Rattle.sv_findings.specs.Findings.{findings_of}
use Rattle.sv_findings.specs.Unsearched.{unsearched}
use Rattle.sv_audit.specs.Rows.{table_for, table_of}
use Rattle.sv_audit.specs.Visitors.{known}
use Rattle.sv_findings.specs.declared.finding.Finding.{Finding}
use Rattle.sv_findings.specs.declared.finding.Finding.TheVariants.{UnusedRole}
use Rattle.sv_audit.specs.declared.rows.Row.{Row}
use Rattle.sv_audit.specs.declared.rows.Table.{Table}
use Rattle.sv_mapping.specs.Pattern.{is_at_or_below}
use Rattle.sv_mapping.specs.Within.{path_within}
use Rattle.sv_report.specs.Places.{line_at, line_of}
use Rattle.sv_report.specs.Viewers.{caller_of}
use Rattle.sv_report.specs.declared.report.ContextReport.{ContextReport}
use Rattle.sv_report.specs.declared.report.ReportedFinding.{ReportedFinding}
use Rattle.sv_report.specs.declared.report.ReportedRow.{ReportedRow}
use Rattle.sv_report.specs.declared.report.Viewer.{Viewer}
use Rattle.sv_audit_command.specs.Accepted as accepting
use Rattle.sv_audit_command.specs.ContextPatterns.{context_patterns}
use Rattle.sv_audit_command.specs.Key as finding_key
use Rattle.sv_audit_command.specs.RowPaths.{reported_rows}
use Rattle.sv_audit_command.specs.Viewer.{viewer_in}
use Rattle.sv_audited_contexts.specs.declared.audited_context.AuditedContext.{AuditedContext}
use Rattle.sv_audit_command.specs.declared.context_patterns.ContextPatterns.{ContextPatterns}
use Rattle.sv_audit_command.specs.declared.context_reports.Audit.{Audit}
use Rattle.sv_audit_command.specs.declared.access_options.Asked.{Asked}

-- The line on which the declaration of a role begins.
abbrev pub role_line : AuditedContext → List ℕ → Option ℕ
role_line context role = option_and_then (λ place. line_at context.source.lines.roles (place + 1)) (position (λ name. bytes_eq name role) context.rules.declared)

-- The line on which the constraint begins, or the role that no constraint names.
abbrev pub finding_line : AuditedContext → Option ℕ → Finding → Option ℕ
finding_line context number (UnusedRole role) = role_line context role
finding_line context number other = line_of context.source.lines.constraints number

-- A finding of a context, given the patterns of its constraints and the text of the accepting file.
abbrev pub reported_finding : AuditedContext → List (List ℕ) → List ℕ → Finding → ReportedFinding
reported_finding context patterns accepted its_finding =
    let its_key = finding_key.key_of context.source.path context.constraints its_finding in
    let its_constraint = finding_key.constraint_of context.constraints patterns its_finding in
    record { finding = its_finding; key = its_key; constraint = its_constraint; line = finding_line context its_constraint its_finding; is_accepted = accepting.is_accepted accepted its_key }

-- The access table of a context.
abbrev pub table_in : AuditedContext → Table
table_in context = table_of context.constraints context.rules

-- The findings of a context, given the patterns of its constraints and the text of the accepting file.
abbrev pub findings_in : AuditedContext → List (List ℕ) → List ℕ → Table → List ReportedFinding
findings_in context patterns accepted table = map (reported_finding context patterns accepted) (findings_of context.constraints context.rules table context.surroundings)

-- The path of another context within this one, without the path of this one (section 12.1).
abbrev pub nested_of : List ℕ → List ℕ → List (List ℕ)
nested_of path other = if bytes_eq other path then [] else if is_at_or_below path other then path_within path other ∷ [] else []

abbrev pub nested_paths : List (List ℕ) → List ℕ → List (List ℕ)
nested_paths paths path = flat_map (nested_of path) paths

-- The patterns of its constraints and servlets.
abbrev pub patterns_in : AuditedContext → ContextPatterns
patterns_in context = context_patterns context.constraints context.mappings

-- The report on the rows, given the patterns of the context and the paths of other contexts within it.
abbrev pub rows_in : AuditedContext → ContextPatterns → List (List ℕ) → List Row → List ReportedRow
rows_in context patterns nested rows =
    reported_rows patterns (context.surroundings.contexts, context.surroundings.path) (all_patterns context.constraints) nested rows

-- The rows of the access table with the numbers of the constraints that decide the requests of a viewer, who is nobody
-- without a login configuration (section 13.6).
abbrev pub viewer_rows : AuditedContext → Viewer → List Row
viewer_rows context viewer = (table_for (λ access. known context.has_login (Some (caller_of viewer))) context.constraints context.rules).rows

-- The rows that are shown, given the access table.
abbrev pub shown_rows : AuditedContext → Option Viewer → Table → List Row
shown_rows context None table = table.rows
shown_rows context (Some viewer) table = viewer_rows context viewer

-- The consequences of the constraints of a context, given its patterns and its access table.
abbrev pub audit_with : Option Asked → List ℕ → AuditedContext → ContextPatterns → Table → Audit
audit_with asked accepted context patterns table = record {
  viewer = viewer_in asked context.realm;
  others = nested_paths context.surroundings.contexts context.surroundings.path;
  rows = rows_in context patterns (nested_paths context.surroundings.contexts context.surroundings.path) (shown_rows context (viewer_in asked context.realm) table);
  findings = findings_in context patterns.constraints accepted table;
  unsearched = unsearched context.constraints context.surroundings;
}

abbrev pub audit_of : Option Asked → List ℕ → AuditedContext → Audit
audit_of asked accepted context = audit_with asked accepted context (patterns_in context) (table_in context)

abbrev pub context_report : Option Asked → List ℕ → AuditedContext → ContextReport
context_report asked accepted context =
    let its_audit = audit_of asked accepted context in
    record {
      path = context.source.path;
      file = context.source.file;
      has_login = context.has_login;
      viewer = its_audit.viewer;
      others = its_audit.others;
      rows = its_audit.rows;
      findings = its_audit.findings;
      unsearched = its_audit.unsearched;
      lines = context.source.lines.constraints;
    }
