-- Links within a context (Jakarta Servlet 6.0, section 3.5).
use Rattle.std.specs.Prelude.{ℕ, List, ◌++◌}
use Rattle.sv_exchange.specs.State.{State}
use Rattle.sv_uri.specs.LocationField.{location}

-- the location of a path in the context
abbrev pub link_to : List ℕ → State → List ℕ
link_to path exchange = location (exchange.context_path ++ path)
