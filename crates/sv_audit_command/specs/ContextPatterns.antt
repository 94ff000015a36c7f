-- The patterns of a context, and the servlet that answers a path (Jakarta Servlet 6.0, sections 12.1 and 12.2).
use Rattle.std.specs.Prelude.{ℕ, nat_lt, List, ◌++◌, length, map, slice_get, Option, None, Some, option_and_then, if◌then◌else◌}
use Rattle.std.specs.List.{flat_map}
use Rattle.sv_audit.specs.Representatives.{representatives}
use Rattle.sv_constraints.specs.Covering.{all_patterns}
use Rattle.sv_constraints.specs.declared.constraint.Constraint.{Constraint}
use Rattle.sv_descriptor.specs.declared.servlet.ServletMapping.{ServletMapping}
use Rattle.sv_mapping.specs.BestMatch.{best}
use Rattle.sv_audited_contexts.specs.ServletPatterns.{mapped_patterns}
use Rattle.sv_audit_command.specs.declared.context_patterns.ContextPatterns.{ContextPatterns}
use Rattle.sv_audit_command.specs.declared.context_patterns.TheConstants.{MAX_ANSWERED_PATTERNS}

-- The name of the servlet, once for each pattern.
abbrev pub names_of : ServletMapping → List (List ℕ)
names_of mapping = map (λ pattern. mapping.servlet_name) mapping.url_patterns

abbrev pub servlet_names : List ServletMapping → List (List ℕ)
servlet_names mappings = flat_map names_of mappings

-- Paths of which one has the same best matches as any path, unless there are too many patterns.
abbrev pub paths_among : List (List ℕ) → Option (List (List ℕ))
paths_among patterns = if nat_lt MAX_ANSWERED_PATTERNS (length patterns) then None else Some (representatives patterns)

-- The patterns of constraints and of servlets.
abbrev pub context_patterns : List Constraint → List ServletMapping → ContextPatterns
context_patterns its_constraints mappings = record {
  constraints = all_patterns its_constraints;
  servlets = mapped_patterns mappings;
  names = servlet_names mappings;
  paths = paths_among (all_patterns its_constraints ++ mapped_patterns mappings);
}

abbrev pub name_at : List (List ℕ) → ℕ → Option (List ℕ)
name_at names place = slice_get names place

-- The name of the servlet whose pattern is the best match of the path; none if none matches.
abbrev pub servlet_at : ContextPatterns → List ℕ → Option (List ℕ)
servlet_at patterns path = option_and_then (name_at patterns.names) (best patterns.servlets path)
