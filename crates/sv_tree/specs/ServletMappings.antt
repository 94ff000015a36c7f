-- The patterns of a descriptor's servlets: Jakarta Servlet 6.0, sections 12.2 and 14.4 (servlet-mapping).
use Rattle.std.specs.Prelude.{ℕ, List, map}
use Rattle.std.specs.List.{flat_map, position_or_len, zip}
use Rattle.std.specs.Str.{bytes_eq}
use Rattle.sv_descriptor.specs.declared.servlet.ServletEntry.{ServletEntry}
use Rattle.sv_descriptor.specs.declared.servlet.ServletMapping.{ServletMapping}
use Rattle.sv_descriptor.specs.declared.web_app.WebApp.{WebApp}
use Rattle.sv_tree.specs.Site.{Mapping}

-- The index of the servlet with this name, which exists for every mapping of a well-formed descriptor.
abbrev pub servlet_place : List ServletEntry → List ℕ → ℕ
servlet_place servlets name = position_or_len (λ servlet. bytes_eq servlet.servlet_name name) servlets

-- Each pattern, paired with the index of its servlet.
abbrev pub beside : List (List ℕ) → List ℕ → List Mapping
beside patterns servlets = map (λ pair. record { pattern = pair.0; servlet = pair.1 }) (zip patterns servlets)

-- The patterns of a mapping, each with the index of its servlet.
abbrev pub patterns_of : List ServletEntry → ServletMapping → List Mapping
patterns_of servlets mapping = map (λ text. record { pattern = text; servlet = servlet_place servlets mapping.servlet_name }) mapping.url_patterns

-- The index of the mapping's servlet, once for each of its patterns.
abbrev pub places_beside : List ServletEntry → ServletMapping → List ℕ
places_beside servlets mapping = map (λ text. servlet_place servlets mapping.servlet_name) mapping.url_patterns

-- The patterns of all servlets, in the descriptor's order.
abbrev pub mappings_of : WebApp → List Mapping
mappings_of app = flat_map (patterns_of app.servlets) app.servlet_mappings
