-- The filters that a dispatch passes: Jakarta Servlet 6.0, sections 6.2.4 (their order) and 6.2.5 (the kinds of
-- dispatches).
use Rattle.std.specs.Prelude.{ℕ, Bool, true, false, not, ◌&&◌, ◌||◌, ◌==◌, List, [], ◌∷◌, ◌++◌, codes, filter, Option, position}
use Rattle.std.specs.List.{list_any, flat_map}
use Rattle.std.specs.Option.{option_to_list}
use Rattle.std.specs.Str.{bytes_eq}
use Rattle.sv_descriptor.specs.declared.filter.FilterEntry.{FilterEntry}
use Rattle.sv_descriptor.specs.declared.filter.FilterMapping.{FilterMapping}
use Rattle.sv_descriptor.specs.declared.web_app.WebApp.{WebApp}
use Rattle.sv_mapping.specs.declared.kind.Kind.{Kind}
use Rattle.sv_mapping.specs.declared.kind.Kind.TheVariants.{Request, Forward, Include, Error}
use Rattle.sv_mapping.specs.Pattern.{matches}

-- Whether the two kinds are the same.
abbrev pub is_same_kind : Kind → Kind → Bool
is_same_kind Request Request = true
is_same_kind Forward Forward = true
is_same_kind Include Include = true
is_same_kind Error Error = true
is_same_kind _ _ = false

-- The kinds that a mapping is for: those that it names, or only requests if it names none.
abbrev pub kinds_of : List Kind → List Kind
kinds_of [] = Request ∷ []
kinds_of (kind ∷ kinds) = kind ∷ kinds

abbrev pub is_for : Kind → FilterMapping → Bool
is_for kind mapping = list_any (λ other. is_same_kind other kind) (kinds_of mapping.dispatchers)

-- The mapping is for this kind, and one of its patterns matches the path.
abbrev pub maps_path : Kind → List ℕ → FilterMapping → Bool
maps_path kind path mapping = is_for kind mapping && list_any (λ pattern. matches pattern path) mapping.url_patterns

-- The mapping is for this kind, and names the servlet, or all servlets by `*`.
abbrev pub maps_servlet : Kind → List ℕ → FilterMapping → Bool
maps_servlet kind servlet mapping =
    is_for kind mapping && list_any (λ name. bytes_eq name servlet || bytes_eq name (codes "*")) mapping.servlet_names

-- The index of the filter with this name.
abbrev pub filter_place : List FilterEntry → List ℕ → Option ℕ
filter_place filters name = position (λ entry. bytes_eq entry.filter_name name) filters

-- The filters of the mappings that pass the test, in the order of the mappings.
abbrev pub filters_of : List FilterEntry → (FilterMapping → Bool) → List FilterMapping → List ℕ
filters_of filters test mappings = flat_map (λ mapping. option_to_list (filter_place filters mapping.filter_name)) (filter test mappings)

-- The distinct indices, in the order of their first occurrences.
abbrev pub without_doubles : List ℕ → List ℕ
without_doubles [] = []
without_doubles (place ∷ places) = place ∷ filter (λ other. not (other == place)) (without_doubles places)

-- The filters whose pattern matches the path, followed by those that are mapped to the servlet.
abbrev pub filter_chain : WebApp → List ℕ → List ℕ → Kind → List ℕ
filter_chain app path servlet kind =
    without_doubles (filters_of app.filters (maps_path kind path) app.filter_mappings
    ++ filters_of app.filters (maps_servlet kind servlet) app.filter_mappings)
