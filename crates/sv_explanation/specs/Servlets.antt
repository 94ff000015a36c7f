-- The servlet that takes a path (Jakarta Servlet 6.0, section 12.1).
use Rattle.std.specs.Prelude.{ℕ, List, find, Option, option_and_then}
use Rattle.std.specs.List.{flat_map}
use Rattle.std.specs.Option.{option_map}
use Rattle.sv_constraints.specs.Covering.{lists}
use Rattle.sv_descriptor.specs.declared.servlet.ServletMapping.{ServletMapping}
use Rattle.sv_mapping.specs.BestMatch.{best_pattern}
use Rattle.sv_explanation.specs.declared.responder.MatchedServlet.{MatchedServlet}

-- The patterns of servlet mappings.
abbrev pub mapped_patterns : List ServletMapping → List (List ℕ)
mapped_patterns mappings = flat_map (λ mapping. mapping.url_patterns) mappings

-- The servlet whose mapping lists the pattern.
abbrev pub servlet_with : List ServletMapping → List ℕ → Option MatchedServlet
servlet_with mappings text =
    option_map (λ mapping. record { name = mapping.servlet_name; pattern = text }) (find (λ mapping. lists mapping.url_patterns text) mappings)

-- The servlet with the best match of the path; none if files answer it.
abbrev pub servlet_at : List ServletMapping → List ℕ → Option MatchedServlet
servlet_at mappings path = option_and_then (servlet_with mappings) (best_pattern (mapped_patterns mappings) path)
