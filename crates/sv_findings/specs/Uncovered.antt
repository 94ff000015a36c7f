-- Methods that are left open (Jakarta Servlet 6.0, section 13.8.4).
use Rattle.std.specs.Prelude.{ℕ, Bool, true, false, List, [], filter, map, Option, None, Some, if◌then◌else◌}
use Rattle.std.specs.List.{list_all}
use Rattle.sv_audit.specs.declared.access.Access.{Access}
use Rattle.sv_audit.specs.declared.access.Access.TheVariants.{Uncovered}
use Rattle.sv_audit.specs.declared.rows.Group.{Group}
use Rattle.sv_findings.specs.declared.finding.Finding.{Finding}
use Rattle.sv_findings.specs.declared.finding.Finding.TheVariants as finding

-- Whether everyone may use the methods since no constraint covers them (section 13.8.4).
abbrev pub is_left_open : Access → Bool
is_left_open Uncovered = true
is_left_open access = false

abbrev pub is_left_out : Group → Bool
is_left_out group = is_left_open group.cell.access

-- The methods that are left open at a pattern at which other methods are covered.
abbrev pub uncovered_at : Option (List ℕ) → List Group → List Finding
uncovered_at None groups = []
uncovered_at (Some pattern) groups =
    if list_all is_left_out groups then [] else map (λ group. finding.Uncovered pattern group.methods) (filter is_left_out groups)
