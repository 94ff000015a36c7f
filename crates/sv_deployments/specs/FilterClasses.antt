-- The classes of filters by their names.
use Rattle.std.specs.Prelude.{ℕ, List, [], codes, if◌then◌else◌, Option, Some, None}
use Rattle.std.specs.Str.{bytes_eq}
use Rattle.sv_component.specs.Call.{Call}
use Rattle.sv_deployments.specs.Leaving.{CallLeavesBoth}
use Rattle.sv_deployments.specs.declared.program_filter.ProgramFilter.{ProgramFilter}
use Rattle.sv_deployments.specs.declared.program_filter.ProgramFilter.TheVariants.{Mark, Halt, Bad}

-- a new filter of the class, without its name
abbrev pub new_filter : List ℕ → Option ProgramFilter
new_filter class =
    if bytes_eq class (codes "Mark") then Some (Mark (record { name = [] }))
    else if bytes_eq class (codes "Halt") then Some (Halt (record {}))
    else if bytes_eq class (codes "Bad") then Some (Bad (record {}))
    else None

-- the effect of a call on a filter of the program: it leaves the fields that a proxy reads, and the caller
abbrev pub FilterSteps : ProgramFilter → Call → ProgramFilter → Type 0
FilterSteps before call after = CallLeavesBoth call
