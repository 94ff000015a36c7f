-- Initialization parameters by name (Jakarta Servlet 6.0, section 2.3.2).
use Rattle.std.specs.Prelude.{ℕ, List, [], ◌∷◌, bytes_eq, Option, None, Some, if◌then◌else◌}
use Rattle.sv_component.specs.declared.config.Param.{Param}

-- The value of the first parameter with this name.
abbrev pub param_of : List ℕ → List Param → Option (List ℕ)
param_of name [] = None
param_of name (param ∷ params) = if bytes_eq param.name name then Some param.value else param_of name params
