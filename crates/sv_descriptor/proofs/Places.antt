-- The places of faults of agreement.
use Rattle.std.proofs.Common.{◌≡◌, ◌||◌, ◌∙◌, sym, ap, None, Ok, ℕ, ◌+◌, ◌<◌, Bool, true, false, not, codes, List, [], ◌∷◌, ◌++◌, length, drop, get_or, refl}
use Rattle.std.specs.List.{list_all, position}
use Rattle.std.specs.Option.{is_none}
use Rattle.sv_descriptor.specs.Agreement.{filter_mappings_fit, filter_names, servlet_names, first_place, is_known_servlet, unknown_servlet_steps}
use Rattle.sv_descriptor.specs.Fault.{item_key, refuse_at}
use Rattle.sv_descriptor.specs.Names.{HaveSame}
use Rattle.sv_descriptor.specs.Servlet.{is_reserved_servlet}
use Rattle.sv_descriptor.specs.Table.{is_among}
use Rattle.sv_descriptor.specs.declared.fault.FaultCode.TheVariants.{UnknownServlet}
use Rattle.sv_descriptor.specs.declared.fault.ValueStep.TheVariants.{Item}
use Rattle.sv_descriptor.specs.declared.filter.FilterMapping.{FilterMapping}
use Rattle.sv_descriptor.specs.declared.web_app.WebApp.{WebApp}
use Rattle.sv_descriptor.proofs.Lists.{drop-here, list_all_position}

module _ (is_known : List ℕ → Bool) (mappings : List FilterMapping) (i : ℕ) (mapping : FilterMapping) (below : i < length mappings) (at : mapping ≡ get_or mappings i mapping) where
  -- All servlets of the mapping are known.
  pub unknown-later : true ≡ list_all is_known mapping.servlet_names → unknown_servlet_steps is_known (i + 1) (drop (i + 1) mappings) ≡ unknown_servlet_steps is_known i (drop i mappings)
  unknown-later known = rw (drop-here mappings i mapping below at, ← known) refl

  -- A servlet of the mapping is unknown.
  pub unknown-here : false ≡ list_all is_known mapping.servlet_names
      → item_key (codes "filter-mapping") i (codes "servlet-name") ++ Item (first_place (λ name. not (is_known name)) mapping.servlet_names) ∷ [] ≡ unknown_servlet_steps is_known i (drop i mappings)
  unknown-here unknown = rw (drop-here mappings i mapping below at, ← unknown) refl

module _ (app : WebApp) where
  -- No mapping is the first that names an unknown filter.
  pub all-filters : (filters : List (List ℕ)) → HaveSame filters (filter_names app) → None ≡ position (λ mapping. not (is_among filters mapping.filter_name)) app.filter_mappings
      → list_all (λ mapping. is_among (filter_names app) mapping.filter_name) app.filter_mappings ≡ true
  all-filters filters same none =
      sym (ap (λ (among : List ℕ → Bool). list_all (λ mapping. among mapping.filter_name) app.filter_mappings) (λ i name. same name i))
      ∙ list_all_position (λ mapping. is_among filters mapping.filter_name) app.filter_mappings ∙ sym (ap is_none none)

  -- A servlet is known exactly if it is reserved or in the set.
  pub all-servlets : (servlets : List (List ℕ)) (all : Bool) → HaveSame servlets (servlet_names app)
      → all ≡ list_all (λ mapping. list_all (λ name. is_reserved_servlet name || is_among servlets name) mapping.servlet_names) app.filter_mappings
      → list_all (λ mapping. list_all (is_known_servlet app) mapping.servlet_names) app.filter_mappings ≡ all
  all-servlets servlets all same is =
      sym (is ∙ ap (λ (known : List ℕ → Bool). list_all (λ mapping. list_all known mapping.servlet_names) app.filter_mappings) (λ i name. ap (λ b. is_reserved_servlet name || b) (same name) i))

-- All filters and servlets are known.
pub known-fits : (app : WebApp) → list_all (λ mapping. is_among (filter_names app) mapping.filter_name) app.filter_mappings ≡ true
    → list_all (λ mapping. list_all (is_known_servlet app) mapping.servlet_names) app.filter_mappings ≡ true → filter_mappings_fit app ≡ Ok tt
known-fits app filters servlets = rw (filters, servlets) refl

-- All filters are known, but not all servlets.
pub unknown-fits : (app : WebApp) → list_all (λ mapping. is_among (filter_names app) mapping.filter_name) app.filter_mappings ≡ true
    → list_all (λ mapping. list_all (is_known_servlet app) mapping.servlet_names) app.filter_mappings ≡ false
    → filter_mappings_fit app ≡ refuse_at UnknownServlet (codes "servlet-name") (unknown_servlet_steps (is_known_servlet app) 0 app.filter_mappings)
unknown-fits app filters servlets = rw (filters, servlets) refl
