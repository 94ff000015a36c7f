-- Patterns at which some visitor fares differently with GET and with HEAD (Jakarta Servlet 6.0, sections 13.6 and 13.8).
use Rattle.std.specs.Prelude.{ℕ, Bool, not, ◌&&◌, List, [], codes, filter, map, Option, None, Some}
use Rattle.std.specs.List.{flat_map}
use Rattle.sv_audit.specs.Callers.{has_method, same_callers}
use Rattle.sv_audit.specs.Visitors.{effective}
use Rattle.sv_audit.specs.declared.access.Access.{Access}
use Rattle.sv_audit.specs.declared.rows.Group.{Group}
use Rattle.sv_findings.specs.declared.finding.Finding.{Finding}
use Rattle.sv_findings.specs.declared.finding.Finding.TheVariants as finding

-- Whether the group has HEAD, and some visitor fares differently with it than with GET.
abbrev pub strays : Bool → Access → Group → Bool
strays has_login get head = has_method (codes "HEAD") head && not (same_callers (effective has_login get) (effective has_login head.cell.access))

-- Some visitor fares differently at the pattern with HEAD than with GET of this access.
abbrev pub straying : Bool → List ℕ → List Group → Access → List Finding
straying has_login pattern groups get = map (λ head. finding.HeadDiffers pattern get head.cell.access) (filter (strays has_login get) groups)

-- Some visitor fares differently at the pattern with GET and with HEAD. Each method is in one group.
abbrev pub head_on : Bool → List ℕ → List Group → List Finding
head_on has_login pattern groups = flat_map (λ get. straying has_login pattern groups get.cell.access) (filter (has_method (codes "GET")) groups)

abbrev pub head_at : Bool → Option (List ℕ) → List Group → List Finding
head_at has_login None groups = []
head_at has_login (Some pattern) groups = head_on has_login pattern groups
