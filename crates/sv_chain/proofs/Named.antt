-- A chain depends only on the names of the filters and on their mappings.
use Rattle.std.proofs.Common.{ℕ, ◌≡◌, ◌+◌, Bool, not, cond, List, [], ◌∷◌, ◌++◌, length, map, filter, Option, Some, None, nat_lt, refl, sym, ap, ◌∙◌}
use Rattle.std.specs.List.{flat_map, position, position_or_len}
use Rattle.std.specs.Option.{option_to_list}
use Rattle.std.specs.Str.{bytes_eq}
use Rattle.std.proofs.lemmas.List.{length-map}
use Rattle.sv_descriptor.specs.Agreement.{filter_names}
use Rattle.sv_descriptor.specs.declared.filter.FilterEntry.{FilterEntry}
use Rattle.sv_descriptor.specs.declared.filter.FilterMapping.{FilterMapping}
use Rattle.sv_descriptor.specs.declared.web_app.WebApp.{WebApp}
use Rattle.sv_mapping.specs.declared.kind.Kind.{Kind}
use Rattle.sv_chain.specs.FilterChain.{filter_chain, filter_place, filters_of, maps_path, maps_servlet, without_doubles}

position_or_len-names : (test : List ℕ → Bool) (filters : List FilterEntry) → position_or_len (λ filter. test filter.filter_name) filters ≡ position_or_len test (map (λ filter. filter.filter_name) filters)
position_or_len-names test [] = refl
position_or_len-names test (entry ∷ filters) = ap (λ n. cond (not (test entry.filter_name)) (1 + n) 0) (position_or_len-names test filters)

-- The index of a name.
abbrev place_of : List (List ℕ) → List ℕ → Option ℕ
place_of names name = position (λ text. bytes_eq text name) names

named : (filters : List FilterEntry) (name : List ℕ) → filter_place filters name ≡ place_of (map (λ filter. filter.filter_name) filters) name
named filters name =
    ap (λ n. cond (nat_lt n (length filters)) (Some n) None) (position_or_len-names (λ text. bytes_eq text name) filters)
    ∙ ap (λ n. cond (nat_lt (position_or_len (λ text. bytes_eq text name) (map (λ filter. filter.filter_name) filters)) n) (Some (position_or_len (λ text. bytes_eq text name) (map (λ filter. filter.filter_name) filters))) None) (sym (length-map filters (λ filter. filter.filter_name)))

-- The indices of the filters of mappings, by the names of all filters.
abbrev places_of : List (List ℕ) → List FilterMapping → List ℕ
places_of names mappings = flat_map (λ mapping. option_to_list (place_of names mapping.filter_name)) mappings

places_named : (filters : List FilterEntry) (mappings : List FilterMapping) → flat_map (λ mapping. option_to_list (filter_place filters mapping.filter_name)) mappings ≡ places_of (map (λ filter. filter.filter_name) filters) mappings
places_named filters [] = refl
places_named filters (mapping ∷ mappings) =
    ap (λ place. option_to_list place ++ flat_map (λ (m : FilterMapping). option_to_list (filter_place filters m.filter_name)) mappings) (named filters mapping.filter_name)
    ∙ ap (λ places. option_to_list (place_of (map (λ filter. filter.filter_name) filters) mapping.filter_name) ++ places) (places_named filters mappings)

abbrev chain_by : List (List ℕ) → List FilterMapping → List ℕ → List ℕ → Kind → List ℕ
chain_by names mappings path servlet kind =
    without_doubles (places_of names (filter (maps_path kind path) mappings) ++ places_of names (filter (maps_servlet kind servlet) mappings))

chain_named : (app : WebApp) (path servlet : List ℕ) (kind : Kind) → filter_chain app path servlet kind ≡ chain_by (filter_names app) app.filter_mappings path servlet kind
chain_named app path servlet kind =
    let by_path = filter (maps_path kind path) app.filter_mappings in
    let by_servlet = filter (maps_servlet kind servlet) app.filter_mappings in
    ap (λ places. without_doubles (places ++ filters_of app.filters (maps_servlet kind servlet) app.filter_mappings)) (places_named app.filters by_path)
    ∙ ap (λ places. without_doubles (places_of (filter_names app) by_path ++ places)) (places_named app.filters by_servlet)

pub chains_by_mappings : (app other : WebApp) → filter_names app ≡ filter_names other → app.filter_mappings ≡ other.filter_mappings → (path servlet : List ℕ) (kind : Kind) → filter_chain app path servlet kind ≡ filter_chain other path servlet kind
chains_by_mappings app other names mappings path servlet kind =
    chain_named app path servlet kind
    ∙ (ap (λ known. chain_by known app.filter_mappings path servlet kind) names
    ∙ (ap (λ listed. chain_by (filter_names other) listed path servlet kind) mappings ∙ sym (chain_named other path servlet kind)))
