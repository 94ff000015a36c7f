-- The constraints of a context, and what they say of the requests of visitors (Jakarta Servlet 6.0, sections 12.1, 13.6 and 13.8).
use Rattle.std.specs.Prelude.{ℕ, Bool, List, Option, IsTrue}
use Rattle.std.specs.List.{list_all}
use Rattle.sv_mapping.specs.BestMatch.{best_pattern}
use Rattle.sv_mapping.specs.Pattern.{is_pattern}
use Rattle.sv_realm.specs.declared.caller.Caller.{Caller}
use Rattle.sv_constraints.specs.Covering.{all_patterns}
use Rattle.sv_constraints.specs.Verdict.{verdict}
use Rattle.sv_constraints.specs.declared.cause.Cause.{Cause}
use Rattle.sv_constraints.specs.declared.constraint.Constraint.{Constraint}
use Rattle.sv_constraints.specs.declared.constraint.Rules.{Rules}
use Rattle.sv_audit.specs.Reading.{Kind, kind_and_cause}
use Rattle.sv_audit.specs.Visitors.{fate}

-- The constraints and rules of a context, and whether it has a login configuration.
pub record Configuration : Type 0 where
  pub constraints : List Constraint
  pub rules : Rules
  pub has_login : Bool

-- Each pattern is a URL pattern, as those of every `Constraint` are.
abbrev pub HasUrlPatterns : Configuration → Type 0
HasUrlPatterns it = IsTrue (list_all is_pattern (all_patterns it.constraints))

abbrev pub best_of : Configuration → List ℕ → Option (List ℕ)
best_of it path = best_pattern (all_patterns it.constraints) path

abbrev pub said_by : Configuration → List ℕ → List ℕ → Option Caller → Kind × Cause
said_by it method path caller = kind_and_cause (verdict it.constraints it.rules method path caller)

-- The fate of a visitor's request by the verdicts of a configuration.
abbrev pub fate_of : Configuration → List ℕ → List ℕ → Option Caller → Kind
fate_of it method path visitor = fate it.has_login (λ caller. (said_by it method path caller).0) visitor
