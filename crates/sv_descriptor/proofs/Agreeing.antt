-- A descriptor that was read is well-formed.
use Rattle.std.proofs.Common.{◌≡◌, true, false, not, codes, Ok, subst}
use Rattle.std.specs.List.{list_all}
use Rattle.std.proofs.lemmas.Option.{IfSome_then}
use Rattle.std.proofs.lemmas.List.Sums.{AllPass-from_list_all}
use Rattle.toml.specs.Data.{Members}
use Rattle.sv_descriptor.specs.Fault.{check_at, item_key}
use Rattle.sv_descriptor.specs.Names.{distinct, first_repeat, repeats}
use Rattle.sv_descriptor.specs.Table.{is_among}
use Rattle.sv_descriptor.specs.declared.fault.FaultCode.TheVariants.{DuplicatePattern, UnknownServlet, UnknownFilter}
use Rattle.sv_descriptor.proofs.Differing.{Differ-repeats, Contains-is_among}
use Rattle.sv_descriptor.proofs.Yields.{bind-Ok, check_at-Ok, distinct-Ok, not-true}
use Rattle.sv_descriptor.specs.Agreement.{first_place, pattern_steps, unknown_servlet_steps, elements_agree, names_differ, servlet_mappings_fit, servlet_names, filter_names, servlet_patterns, is_known_servlet}
use Rattle.sv_descriptor.specs.Descriptor.{descriptor}
use Rattle.sv_descriptor.specs.WebApp.{web_app}
use Rattle.sv_descriptor.specs.WellFormed.{IsWellFormed}
use Rattle.sv_descriptor.specs.declared.web_app.WebApp.{WebApp}
use Rattle.sv_descriptor.proofs.Elements.{HasElements, web_app-Ok}

-- The properties of all elements together.
record Agrees (app : WebApp) : Type 0 where
  servlets_differ : repeats (servlet_names app) ≡ false
  filters_differ : repeats (filter_names app) ≡ false
  roles_differ : repeats app.rules.declared ≡ false
  servlets_declared : list_all (λ mapping. is_among (servlet_names app) mapping.servlet_name) app.servlet_mappings ≡ true
  patterns_differ : repeats (servlet_patterns app) ≡ false
  filters_declared : list_all (λ mapping. is_among (filter_names app) mapping.filter_name) app.filter_mappings ≡ true
  servlets_known : list_all (λ mapping. list_all (is_known_servlet app) mapping.servlet_names) app.filter_mappings ≡ true

elements_agree-Ok : (app : WebApp) (u : Unit {0}) → elements_agree app ≡ Ok u → Agrees app
elements_agree-Ok app u e =
    bind-Ok (names_differ app) _ _ e (λ u1 names e1.
    bind-Ok (servlet_mappings_fit app) _ _ e1 (λ u2 servlets filters.
    let mapped = list_all (λ mapping. is_among (servlet_names app) mapping.servlet_name) app.servlet_mappings in
    let mapped_steps = item_key (codes "servlet-mapping") (first_place (λ mapping. not (is_among (servlet_names app) mapping.servlet_name)) app.servlet_mappings) (codes "servlet-name") in
    let filtered = list_all (λ mapping. is_among (filter_names app) mapping.filter_name) app.filter_mappings in
    let filtered_steps = item_key (codes "filter-mapping") (first_place (λ mapping. not (is_among (filter_names app) mapping.filter_name)) app.filter_mappings) (codes "filter-name") in
    bind-Ok (distinct (codes "servlet") (codes "servlet-name") (servlet_names app)) _ _ names (λ v1 c1 f1.
    bind-Ok (distinct (codes "filter") (codes "filter-name") (filter_names app)) _ _ f1 (λ v2 c2 c3.
    bind-Ok (check_at mapped UnknownServlet (codes "servlet-name") mapped_steps) _ _ servlets (λ v4 c4 c5.
    bind-Ok (check_at filtered UnknownFilter (codes "filter-name") filtered_steps) _ _ filters (λ v6 c6 c7.
    record {
      servlets_differ = distinct-Ok (codes "servlet") (codes "servlet-name") (servlet_names app) v1 c1;
      filters_differ = distinct-Ok (codes "filter") (codes "filter-name") (filter_names app) v2 c2;
      roles_differ = distinct-Ok (codes "security-role") (codes "role-name") app.rules.declared u1 c3;
      servlets_declared = check_at-Ok mapped UnknownServlet (codes "servlet-name") mapped_steps v4 c4;
      patterns_differ = not-true _ (check_at-Ok (not (repeats (servlet_patterns app))) DuplicatePattern (codes "url-pattern") (pattern_steps 0 app.servlet_mappings (first_repeat (servlet_patterns app))) u2 c5);
      filters_declared = check_at-Ok filtered UnknownFilter (codes "filter-name") filtered_steps v6 c6;
      servlets_known = check_at-Ok (list_all (λ mapping. list_all (is_known_servlet app) mapping.servlet_names) app.filter_mappings) UnknownServlet (codes "servlet-name") (unknown_servlet_steps (is_known_servlet app) 0 app.filter_mappings) u c7;
    }))))))

well_formed : (app : WebApp) → HasElements app → Agrees app → IsWellFormed app
well_formed app has agrees = record {
  servlet_names_differ = Differ-repeats (servlet_names app) agrees.servlets_differ;
  servlet_names_are_free = has.servlets.each;
  mapped_servlets_are_declared = λ k m l. Contains-is_among (servlet_names app) _ (AllPass-from_list_all _ app.servlet_mappings agrees.servlets_declared k m l);
  servlet_patterns_differ = Differ-repeats (servlet_patterns app) agrees.patterns_differ;
  filter_names_differ = Differ-repeats (filter_names app) agrees.filters_differ;
  mapped_filters_are_declared = λ k m l. Contains-is_among (filter_names app) _ (AllPass-from_list_all _ app.filter_mappings agrees.filters_declared k m l);
  filtered_servlets_are_known = λ k m l. AllPass-from_list_all _ _ (AllPass-from_list_all _ app.filter_mappings agrees.servlets_known k m l);
  error_pages_have_paths = has.error_pages.each;
  login_page_has_a_path = IfSome_then app.login has.login (λ _ pages. pages.login_page);
  login_error_page_has_a_path = IfSome_then app.login has.login (λ _ pages. pages.error_page);
  constraints_are_numbered = has.constraints.numbered;
  roles_differ = Differ-repeats app.rules.declared agrees.roles_differ;
  roles_are_free = has.roles.each;
  session_timeout_is_bounded = has.session.timeout;
  session_cookie_can_be_set = has.session.cookie;
  lists_are_short = record {
    servlets = has.servlets.short;
    servlet_mappings = has.servlet_mappings.short;
    patterns_of_servlets = has.servlet_mappings.each;
    filters = has.filters;
    filter_mappings = has.filter_mappings.short;
    lists_of_filter_mappings = has.filter_mappings.each;
    listeners = has.listeners;
    welcome_files = has.welcome_files;
    error_pages = has.error_pages.short;
    constraints = has.constraints.short;
    lists_of_constraints = has.constraints.few;
    roles = has.roles.short;
  };
}

pub IsWellFormed-agrees : (members : Members) (app : WebApp) (u : Unit {0}) → web_app members ≡ Ok app → elements_agree app ≡ Ok u → IsWellFormed app
IsWellFormed-agrees members app u read agree = well_formed app (web_app-Ok members app read) (elements_agree-Ok app u agree)

pub IsWellFormed-descriptor : (members : Members) (app : WebApp) → descriptor members ≡ Ok app → IsWellFormed app
IsWellFormed-descriptor members app e =
    bind-Ok (web_app members) _ _ e (λ found read e1.
    bind-Ok (elements_agree found) _ _ e1 (λ u agree e2.
    let same : found ≡ app = cc in
    subst IsWellFormed same (IsWellFormed-agrees members found u read agree)))
