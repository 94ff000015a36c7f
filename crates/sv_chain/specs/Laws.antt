-- The laws of filter chains: Jakarta Servlet 6.0, sections 6.2.4 (their order) and 6.2.5 (the kinds of dispatches).
use Rattle.std.specs.Prelude.{◌≡◌, ◌≢◌, ℕ, ◌<◌, Bool, ◌&&◌, ◌||◌, ◌==◌, List, ◌⊎◌}
use Rattle.std.specs.List.{AllPairs, list_any, position_or_len}
use Rattle.std.specs.Option.{option_to_list}
use Rattle.sv_chain.specs.FilterChain.{filter_chain, filter_place, maps_path, maps_servlet}
use Rattle.sv_descriptor.specs.Agreement.{filter_names}
use Rattle.sv_descriptor.specs.declared.filter.FilterMapping.{FilterMapping}
use Rattle.sv_descriptor.specs.declared.web_app.WebApp.{WebApp}
use Rattle.sv_mapping.specs.declared.kind.Kind.{Kind}

-- The place is in the list.
abbrev pub stands : ℕ → List ℕ → Bool
stands place places = list_any (λ other. other == place) places

-- The mapping names the filter at this place.
abbrev pub is_mapping_of : WebApp → ℕ → FilterMapping → Bool
is_mapping_of app place mapping = stands place (option_to_list (filter_place app.filters mapping.filter_name))

-- The mapping is for this kind, and one of its patterns matches the path or it names the servlet.
abbrev pub leads_to : Kind → List ℕ → List ℕ → FilterMapping → Bool
leads_to kind path servlet mapping = maps_path kind path mapping || maps_servlet kind servlet mapping

-- No filter appears twice.
abbrev pub FiltersStandOnce : Type 0
FiltersStandOnce = (app : WebApp) (path servlet : List ℕ) (kind : Kind) → AllPairs (λ place other. place ≢ other) (filter_chain app path servlet kind)

-- A filter is in a chain exactly if one of its mappings leads to it.
abbrev pub FiltersStandWhereMapped : Type 0
FiltersStandWhereMapped = (app : WebApp) (path servlet : List ℕ) (kind : Kind) (place : ℕ)
    → stands place (filter_chain app path servlet kind)
    ≡ list_any (λ mapping. is_mapping_of app place mapping && leads_to kind path servlet mapping) app.filter_mappings

-- The index of the filter's first mapping that passes the test, or the number of mappings if none passes.
abbrev pub first_mapping : WebApp → (FilterMapping → Bool) → ℕ → ℕ
first_mapping app test place = position_or_len (λ mapping. is_mapping_of app place mapping && test mapping) app.filter_mappings

-- The filter's first mapping by path precedes the other's; or these are equal, and its first mapping by servlet
-- precedes.
abbrev pub GoesBefore : WebApp → List ℕ → List ℕ → Kind → ℕ → ℕ → Type 0
GoesBefore app path servlet kind place other =
    let by_path = first_mapping app (maps_path kind path) in
    let by_servlet = first_mapping app (maps_servlet kind servlet) in
    (by_path place < by_path other) ⊎ ((by_path place ≡ by_path other) × (by_servlet place < by_servlet other))

-- Filters whose pattern matches come before those that are only mapped to the servlet, each in the descriptor's order.
abbrev pub FiltersStandInOrder : Type 0
FiltersStandInOrder = (app : WebApp) (path servlet : List ℕ) (kind : Kind) → AllPairs (GoesBefore app path servlet kind) (filter_chain app path servlet kind)

-- If the filter names and the filter mappings of two descriptors are equal, so are their chains.
abbrev pub MappingsMakeChains : Type 0
MappingsMakeChains = (app other : WebApp) → filter_names app ≡ filter_names other → app.filter_mappings ≡ other.filter_mappings
    → (path servlet : List ℕ) (kind : Kind) → filter_chain app path servlet kind ≡ filter_chain other path servlet kind
