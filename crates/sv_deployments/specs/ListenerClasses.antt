-- The classes of listeners by their names.
use Rattle.std.specs.Prelude.{ℕ, List, codes, if◌then◌else◌, Option, Some, None}
use Rattle.std.specs.Str.{bytes_eq}
use Rattle.sv_deployments.specs.Counting.{Counts}
use Rattle.sv_component.specs.Call.{Call}
use Rattle.sv_deployments.specs.declared.program_listener.ProgramListener.{ProgramListener}
use Rattle.sv_deployments.specs.declared.program_listener.ProgramListener.TheVariants.{Log}

-- a new listener of the class, which has received no event
abbrev pub new_listener : List ℕ → Option ProgramListener
new_listener class = if bytes_eq class (codes "Log") then Some (Log (record { heard = 0 })) else None

-- the effect of an event on a listener is its effect on the listener's class
abbrev pub HearsAs : ProgramListener → Call → ProgramListener → Type 0
HearsAs (Log before) call (Log after) = Counts before.heard call after.heard
