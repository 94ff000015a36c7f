-- Context paths (Jakarta Servlet 6.0 sections 3.5 and 3.5.2).
use Rattle.std.specs.Prelude.{ℕ, Bool, false, ◌&&◌, ◌||◌, not, nat_eq, List, [], codes, if◌then◌else◌, is_none, Result, Ok, Err}
use Rattle.std.specs.List.{ends_with}
use Rattle.std.specs.Str.{bytes_eq}
use Rattle.sv_uri.specs.Canonical.{canonical}
use Rattle.sv_uri.specs.declared.fault.PathFault.{PathFault}
use Rattle.sv_uri.specs.declared.path.Canon.{Canon}
use Rattle.sv_descriptor.specs.Fault.{Located, refuse}
use Rattle.sv_descriptor.specs.declared.fault.FaultCode.TheVariants.{BadValue}

abbrev pub is_itself : List ℕ → Result Canon PathFault → Bool
is_itself text (Ok canon) = bytes_eq canon.path text && is_none canon.query
is_itself text (Err fault) = false

-- The text is its own canonical path.
unfoldable pub is_canonical : List ℕ → Bool
is_canonical text = is_itself text (canonical text)

-- The root context, or a canonical path that does not end in a slash.
abbrev pub is_context_path : List ℕ → Bool
is_context_path text = bytes_eq text [] || (is_canonical text && not (ends_with nat_eq text (codes "/")))

abbrev pub context_path : List ℕ → List ℕ → Located (List ℕ)
context_path key text = if is_context_path text then Ok text else refuse BadValue key
