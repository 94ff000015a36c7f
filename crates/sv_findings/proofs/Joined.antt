-- All findings from their parts.
use Rattle.std.proofs.Common.{◌≡◌, ℕ, List, [], ◌++◌, ap, ap₂, ◌∙◌}
use Rattle.std.specs.Prelude.{filter}
use Rattle.sv_constraints.specs.Covering.{all_patterns}
use Rattle.sv_constraints.specs.declared.constraint.Constraint.{Constraint}
use Rattle.sv_constraints.specs.declared.constraint.Rules.{Rules}
use Rattle.sv_audit.specs.declared.rows.Row.{Row}
use Rattle.sv_audit.specs.declared.rows.Table.{Table}
use Rattle.sv_findings.specs.Findings.{findings_of, pattern_findings, row_findings}
use Rattle.sv_findings.specs.LoginNeeds.{login_needs}
use Rattle.sv_findings.specs.MetRows.{is_row_met}
use Rattle.sv_findings.specs.RoleFindings.{role_findings}
use Rattle.sv_findings.specs.declared.finding.Finding.{Finding}
use Rattle.sv_findings.specs.declared.surroundings.Surroundings.{Surroundings}

module _ (constraints : List Constraint) (rules : Rules) (table : Table) (surroundings : Surroundings) where
  abbrev all_with : List (List ℕ) → List Row → List (List ℕ) × List ℕ → List Finding → List Finding
  all_with declared rows reaches start = (start ++ row_findings constraints surroundings.has_login rows (filter (is_row_met reaches.0 reaches.1 (all_patterns constraints)) rows)) ++ pattern_findings constraints rules reaches.0 reaches.1 surroundings ++ login_needs reaches.0 reaches.1 constraints rules surroundings.has_login (filter (is_row_met reaches.0 reaches.1 (all_patterns constraints)) rows) surroundings.login_page ++ role_findings declared surroundings.held constraints

  pub all_joined : (reaches : List (List ℕ) × List ℕ) (contexts declared : List (List ℕ)) (context : List ℕ) (rows every reached again : List Row) (start by_row by_pattern by_page by_role : List Finding)
      → reaches ≡ (contexts, context) → contexts ≡ surroundings.contexts → context ≡ surroundings.path → rows ≡ table.rows → every ≡ rows → reached ≡ filter (is_row_met reaches.0 reaches.1 (all_patterns constraints)) rows → again ≡ filter (is_row_met reaches.0 reaches.1 (all_patterns constraints)) rows → start ≡ [] → by_row ≡ start ++ row_findings constraints surroundings.has_login every reached
      → by_pattern ≡ by_row ++ pattern_findings constraints rules reaches.0 reaches.1 surroundings → by_page ≡ by_pattern ++ login_needs reaches.0 reaches.1 constraints rules surroundings.has_login again surroundings.login_page → declared ≡ rules.declared → by_role ≡ by_page ++ role_findings declared surroundings.held constraints → by_role ≡ findings_of constraints rules table surroundings
  all_joined reaches contexts declared context rows every reached again start by_row by_pattern by_page by_role are here there shown same kept kept_again none first second paged known third =
      third ∙ ap (λ front. front ++ role_findings declared surroundings.held constraints) (paged ∙ ap₂ (λ front met. front ++ login_needs reaches.0 reaches.1 constraints rules surroundings.has_login met surroundings.login_page) (second ∙ ap (λ front. front ++ pattern_findings constraints rules reaches.0 reaches.1 surroundings) (first ∙ ap₂ (λ all some. start ++ row_findings constraints surroundings.has_login all some) same kept)) kept_again)
      ∙ ap (all_with declared rows reaches) none ∙ ap (λ its. all_with declared rows its []) (are ∙ ap₂ (λ its own. (its, own)) here there)
      ∙ ap₂ (λ its some. all_with its some (surroundings.contexts, surroundings.path) []) known shown
