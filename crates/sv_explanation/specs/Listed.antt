-- The constraints on a best pattern, as an explanation lists them (Jakarta Servlet 6.0, sections 13.8.1 and 13.8.3).
use Rattle.std.specs.Prelude.{ℕ, Bool, not, ◌==◌, List, [], filter, length, map, Option, None, Some, codes, if◌then◌else◌}
use Rattle.std.specs.List.{list_any}
use Rattle.sv_constraints.specs.Covering.{covers, lists}
use Rattle.sv_constraints.specs.Roles.{roles_read}
use Rattle.sv_constraints.specs.Verdict.{permits_plain}
use Rattle.sv_constraints.specs.declared.constraint.Auth.{Auth}
use Rattle.sv_constraints.specs.declared.constraint.Auth.TheVariants as auth
use Rattle.sv_constraints.specs.declared.constraint.Constraint.{Constraint}
use Rattle.sv_constraints.specs.declared.constraint.Rules.{Rules}
use Rattle.sv_report.specs.Places.{line_at}
use Rattle.sv_explanation.specs.declared.listed_constraint.Entrants.{Entrants}
use Rattle.sv_explanation.specs.declared.listed_constraint.Entrants.TheVariants.{Everyone, AnyLogin, WithRole, Nobody}
use Rattle.sv_explanation.specs.declared.listed_constraint.ListedConstraint.{ListedConstraint}
use Rattle.sv_explanation.specs.declared.site_context.SiteContext.{SiteContext}

-- The callers that a list of roles admits.
abbrev pub admitted : Rules → List (List ℕ) → Entrants
admitted rules names =
    if length names == 0 then Nobody
    else if lists names (codes "**") then AnyLogin
    else WithRole (roles_read rules.declared names)

-- The callers that an authorization constraint admits.
abbrev pub entrants : Rules → Auth → Entrants
entrants rules auth.Absent = Everyone
entrants rules (auth.Roles names) = admitted rules names

-- A constraint as it is listed.
abbrev pub listed_constraint : SiteContext → List ℕ → List ℕ → Constraint → ListedConstraint
listed_constraint context pattern method constraint = record {
  number = constraint.number;
  line = line_at context.lines constraint.number;
  is_covering = covers constraint pattern method;
  entrants = entrants context.descriptor.rules constraint.auth;
  needs_tls = not (permits_plain constraint);
}

-- Whether some collection of the constraint lists the pattern.
abbrev pub has_pattern : List ℕ → Constraint → Bool
has_pattern pattern constraint = list_any (λ collection. lists collection.patterns pattern) constraint.collections

-- The constraints with the best pattern, in order; none without a pattern.
abbrev pub listed_on : SiteContext → Option (List ℕ) → List ℕ → List ListedConstraint
listed_on context None method = []
listed_on context (Some pattern) method = map (listed_constraint context pattern method) (filter (has_pattern pattern) context.constraints)
