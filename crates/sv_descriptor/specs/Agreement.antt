-- Agreement among the elements of a deployment descriptor (Jakarta Servlet 6.0 sections 12.2 and 14.4).
use Rattle.std.specs.Prelude.{ℕ, ◌+◌, ◌-◌, nat_lt, Bool, not, ◌||◌, if◌then◌else◌, List, [], ◌∷◌, ◌++◌, length, map, codes, unwrap_or}
use Rattle.std.specs.List.{list_all, flat_map, position}
use Rattle.sv_text.specs.Steps.{◌>>◌}
use Rattle.sv_descriptor.specs.Fault.{Located, check_at, item_key}
use Rattle.sv_descriptor.specs.Table.{is_among}
use Rattle.sv_descriptor.specs.declared.fault.FaultCode.TheVariants.{DuplicatePattern, UnknownServlet, UnknownFilter}
use Rattle.sv_descriptor.specs.declared.fault.ValueStep.{ValueStep}
use Rattle.sv_descriptor.specs.declared.fault.ValueStep.TheVariants.{Item}
use Rattle.sv_descriptor.specs.declared.filter.FilterMapping.{FilterMapping}
use Rattle.sv_descriptor.specs.declared.servlet.ServletMapping.{ServletMapping}
use Rattle.sv_descriptor.specs.Names.{distinct, first_repeat, repeats}
use Rattle.sv_descriptor.specs.Servlet.{is_reserved_servlet}
use Rattle.sv_descriptor.specs.declared.web_app.WebApp.{WebApp}

abbrev pub servlet_names : WebApp → List (List ℕ)
servlet_names app = map (λ servlet. servlet.servlet_name) app.servlets

abbrev pub filter_names : WebApp → List (List ℕ)
filter_names app = map (λ filter. filter.filter_name) app.filters

-- The declared servlets and the reserved names.
abbrev pub is_known_servlet : WebApp → List ℕ → Bool
is_known_servlet app name = is_reserved_servlet name || is_among (servlet_names app) name

-- The patterns of all servlet mappings.
abbrev pub servlet_patterns : WebApp → List (List ℕ)
servlet_patterns app = flat_map (λ mapping. mapping.url_patterns) app.servlet_mappings

abbrev pub names_differ : WebApp → Located (Unit {0})
names_differ app = do
  distinct (codes "servlet") (codes "servlet-name") (servlet_names app)
  distinct (codes "filter") (codes "filter-name") (filter_names app)
  distinct (codes "security-role") (codes "role-name") app.rules.declared

-- The place of the first item that passes.
abbrev pub first_place : {A : Type 0} → (A → Bool) → List A → ℕ
first_place passes items = unwrap_or (position passes items) 0

-- The steps to the pattern with this number among those of the servlet mappings from number `i` on.
abbrev pub pattern_steps : ℕ → List ServletMapping → ℕ → List ValueStep
pattern_steps i [] number = []
pattern_steps i (mapping ∷ rest) number =
    if nat_lt number (length mapping.url_patterns) then item_key (codes "servlet-mapping") i (codes "url-pattern") ++ Item number ∷ []
    else pattern_steps (i + 1) rest (number - length mapping.url_patterns)

-- The steps to the first unknown servlet of the filter mappings from number `i` on.
abbrev pub unknown_servlet_steps : (List ℕ → Bool) → ℕ → List FilterMapping → List ValueStep
unknown_servlet_steps is_known i [] = []
unknown_servlet_steps is_known i (mapping ∷ rest) =
    if list_all is_known mapping.servlet_names then unknown_servlet_steps is_known (i + 1) rest
    else item_key (codes "filter-mapping") i (codes "servlet-name") ++ Item (first_place (λ name. not (is_known name)) mapping.servlet_names) ∷ []

abbrev pub servlet_mappings_fit : WebApp → Located (Unit {0})
servlet_mappings_fit app = do
  check_at (list_all (λ mapping. is_among (servlet_names app) mapping.servlet_name) app.servlet_mappings) UnknownServlet (codes "servlet-name")
      (item_key (codes "servlet-mapping") (first_place (λ mapping. not (is_among (servlet_names app) mapping.servlet_name)) app.servlet_mappings) (codes "servlet-name"))
  check_at (not (repeats (servlet_patterns app))) DuplicatePattern (codes "url-pattern")
      (pattern_steps 0 app.servlet_mappings (first_repeat (servlet_patterns app)))

abbrev pub filter_mappings_fit : WebApp → Located (Unit {0})
filter_mappings_fit app = do
  check_at (list_all (λ mapping. is_among (filter_names app) mapping.filter_name) app.filter_mappings) UnknownFilter (codes "filter-name")
      (item_key (codes "filter-mapping") (first_place (λ mapping. not (is_among (filter_names app) mapping.filter_name)) app.filter_mappings) (codes "filter-name"))
  check_at (list_all (λ mapping. list_all (is_known_servlet app) mapping.servlet_names) app.filter_mappings) UnknownServlet (codes "servlet-name")
      (unknown_servlet_steps (is_known_servlet app) 0 app.filter_mappings)

abbrev pub elements_agree : WebApp → Located (Unit {0})
elements_agree app = do
  names_differ app
  servlet_mappings_fit app
  filter_mappings_fit app
