-- The URL patterns of servlets (Jakarta Servlet 6.0, section 12.2).
use Rattle.std.specs.Prelude.{ℕ, List}
use Rattle.std.specs.List.{flat_map}
use Rattle.sv_descriptor.specs.declared.servlet.ServletMapping.{ServletMapping}

-- The patterns of servlet mappings, in order.
abbrev pub mapped_patterns : List ServletMapping → List (List ℕ)
mapped_patterns mappings = flat_map (λ mapping. mapping.url_patterns) mappings
