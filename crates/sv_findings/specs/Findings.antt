-- What constraints leave open by mistake, or state without effect (Jakarta Servlet 6.0, sections 12.1 and 13.8).
use Rattle.std.specs.Prelude.{ℕ, Bool, List, ◌++◌, filter}
use Rattle.std.specs.List.{flat_map}
use Rattle.sv_constraints.specs.Covering.{all_patterns}
use Rattle.sv_constraints.specs.declared.constraint.Constraint.{Constraint}
use Rattle.sv_constraints.specs.declared.constraint.Rules.{Rules}
use Rattle.sv_audit.specs.declared.rows.Row.{Row}
use Rattle.sv_audit.specs.declared.rows.Table.{Table}
use Rattle.sv_findings.specs.Dead.{dead_among, dead_patterns, escaped}
use Rattle.sv_findings.specs.Heads.{head_at}
use Rattle.sv_findings.specs.LoginNeeds.{login_needs}
use Rattle.sv_findings.specs.Opened.{opened_at}
use Rattle.sv_findings.specs.MetRows.{is_row_met}
use Rattle.sv_findings.specs.Overruled.{compared, overruled}
use Rattle.sv_findings.specs.Readings.{read_otherwise}
use Rattle.sv_findings.specs.RoleFindings.{role_findings}
use Rattle.sv_findings.specs.Uncovered.{uncovered_at}
use Rattle.sv_findings.specs.Unreached.{unreached}
use Rattle.sv_findings.specs.Unserved.{unserved}
use Rattle.sv_findings.specs.declared.finding.Finding.{Finding}
use Rattle.sv_findings.specs.declared.surroundings.Surroundings.{Surroundings}

-- The findings of rows of an access table that requests meet, given whether there is a login configuration, and all rows.
abbrev pub row_findings : List Constraint → Bool → List Row → List Row → List Finding
row_findings constraints has_login all_rows met_rows =
    flat_map (λ row. opened_at constraints row.pattern) met_rows
    ++ flat_map (λ row. uncovered_at row.pattern row.groups) met_rows
    ++ read_otherwise all_rows met_rows
    ++ flat_map (λ row. head_at has_login row.pattern row.groups) met_rows

-- The findings of the patterns of constraints and of constraints that change nothing, given the paths of all contexts and that of this one.
abbrev pub pattern_findings : List Constraint → Rules → List (List ℕ) → List ℕ → Surroundings → List Finding
pattern_findings constraints rules contexts context surroundings =
    dead_among (all_patterns constraints) constraints
    ++ dead_patterns (all_patterns constraints) constraints
    ++ overruled rules (compared surroundings constraints)
    ++ unreached contexts context constraints
    ++ unserved contexts context surroundings constraints
    ++ escaped constraints

-- The rows whose pattern some requests may reach and have as their best match.
abbrev pub met_rows : List Constraint → Surroundings → List Row → List Row
met_rows constraints surroundings rows = filter (is_row_met surroundings.contexts surroundings.path (all_patterns constraints)) rows

-- The findings of constraints and their table, given what surrounds them.
abbrev pub findings_of : List Constraint → Rules → Table → Surroundings → List Finding
findings_of constraints rules table surroundings =
    row_findings constraints surroundings.has_login table.rows (met_rows constraints surroundings table.rows) ++ pattern_findings constraints rules surroundings.contexts surroundings.path surroundings ++ login_needs surroundings.contexts surroundings.path constraints rules surroundings.has_login (met_rows constraints surroundings table.rows) surroundings.login_page ++ role_findings rules.declared surroundings.held constraints
