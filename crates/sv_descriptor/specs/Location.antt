-- Locations of pages within a context: texts that have a canonical path (Jakarta Servlet 6.0 section 3.5.2).
use Rattle.std.specs.Prelude.{ℕ, Bool, List, if◌then◌else◌, Option, Some, None, Ok, is_ok}
use Rattle.sv_uri.specs.Canonical.{canonical}
use Rattle.sv_descriptor.specs.Fault.{Located, refuse}
use Rattle.sv_descriptor.specs.declared.fault.FaultCode.TheVariants.{BadValue}

-- The text has a canonical path, with or without a query.
unfoldable pub is_location : List ℕ → Bool
is_location text = is_ok (canonical text)

-- The location that a text describes, if any.
abbrev pub parsed : List ℕ → Option (List ℕ)
parsed text = if is_location text then Some text else None

abbrev pub location : List ℕ → List ℕ → Located (List ℕ)
location key text = if is_location text then Ok text else refuse BadValue key
