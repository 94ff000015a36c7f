-- A well-formed descriptor (Jakarta Servlet 6.0 sections 12.2, 13.8 and 14.4).
use Rattle.std.specs.Prelude.{◌≡◌, ℕ, ◌+◌, ◌<◌, ◌≤◌, false, true, List, [], length, slice_index_or, IfSome}
use Rattle.std.specs.List.{All, Contains}
use Rattle.sv_constraints.specs.Covering.{patterns_in}
use Rattle.sv_constraints.specs.declared.constraint.Auth.{Auth}
use Rattle.sv_constraints.specs.declared.constraint.Auth.TheVariants as auth
use Rattle.sv_constraints.specs.declared.constraint.Constraint.{Constraint}
use Rattle.sv_constraints.specs.declared.constraint.Methods.{Methods}
use Rattle.sv_constraints.specs.declared.constraint.Methods.TheVariants as methods
use Rattle.sv_descriptor.specs.Names.{Differ}
use Rattle.sv_descriptor.specs.declared.limits.TheConstants.{MAX_LIST_ITEMS}
use Rattle.sv_message.specs.declared.cookie_settings.CookieSettings.{CookieSettings}
use Rattle.sv_descriptor.specs.Agreement.{servlet_names, filter_names, servlet_patterns, is_known_servlet}
use Rattle.sv_descriptor.specs.CookieConfig.{is_cookie_name, is_cookie_path}
use Rattle.sv_descriptor.specs.Location.{is_location}
use Rattle.sv_descriptor.specs.Role.{is_reserved_role}
use Rattle.sv_descriptor.specs.Servlet.{is_reserved_servlet}
use Rattle.sv_descriptor.specs.declared.filter.FilterMapping.{FilterMapping}
use Rattle.sv_constraints.specs.declared.constraint.TheConstants.{MAX_PATTERNS_OF_CONSTRAINT}
use Rattle.sv_descriptor.specs.declared.limits.TheConstants.{MAX_COOKIE_AGE, MAX_SESSION_TIMEOUT}
use Rattle.sv_descriptor.specs.declared.web_app.WebApp.{WebApp}

-- The length of a list is within the common limit.
abbrev pub IsShort : {A : Type 0} → List A → Type 0
IsShort list = length list ≤ MAX_LIST_ITEMS

-- The lists of a filter mapping are within the common limit.
pub record HasShortLists (mapping : FilterMapping) : Type 0 where
  pub url_patterns : IsShort mapping.url_patterns
  pub servlet_names : IsShort mapping.servlet_names
  pub dispatchers : IsShort mapping.dispatchers

-- The methods that a collection names.
abbrev pub named_methods : Methods → List (List ℕ)
named_methods methods.All = []
named_methods (methods.Only listed) = listed
named_methods (methods.Except omitted) = omitted

-- The roles that a constraint names.
abbrev pub named_roles : Auth → List (List ℕ)
named_roles auth.Absent = []
named_roles (auth.Roles roles) = roles

-- The lists of a constraint are within the common limit, and its patterns within that of a constraint.
pub record HasFewItems (constraint : Constraint) : Type 0 where
  pub collections : IsShort constraint.collections
  pub patterns : length (patterns_in constraint) ≤ MAX_PATTERNS_OF_CONSTRAINT
  pub methods : All (λ collection. IsShort (named_methods collection.methods)) constraint.collections
  pub roles : IsShort (named_roles constraint.auth)

-- The lists of all elements are within their limits.
pub record AllListsAreShort (app : WebApp) : Type 0 where
  pub servlets : IsShort app.servlets
  pub servlet_mappings : IsShort app.servlet_mappings
  pub patterns_of_servlets : All (λ mapping. IsShort mapping.url_patterns) app.servlet_mappings
  pub filters : IsShort app.filters
  pub filter_mappings : IsShort app.filter_mappings
  pub lists_of_filter_mappings : All HasShortLists app.filter_mappings
  pub listeners : IsShort app.listeners
  pub welcome_files : IsShort app.welcome_files
  pub error_pages : IsShort app.error_pages
  pub constraints : IsShort app.constraints
  pub lists_of_constraints : All HasFewItems app.constraints
  pub roles : IsShort app.rules.declared

-- The constraints are numbered 1, 2, .. in order.
abbrev pub AreNumbered : List Constraint → Type 0
AreNumbered constraints = (i : ℕ) (d : Constraint) → i < length constraints → (slice_index_or constraints i d).number ≡ i + 1

-- Valid cookie settings: the name and the path cannot end an attribute, and the lifetime is bounded.
pub record CanBeSet (settings : CookieSettings) : Type 0 where
  pub name : is_cookie_name settings.name ≡ true
  pub path : IfSome settings.path (λ path. is_cookie_path path ≡ true)
  pub max_age : IfSome settings.max_age (λ seconds. seconds ≤ MAX_COOKIE_AGE)

pub record IsWellFormed (app : WebApp) : Type 0 where
  pub servlet_names_differ : Differ (servlet_names app)
  pub servlet_names_are_free : All (λ servlet. is_reserved_servlet servlet.servlet_name ≡ false) app.servlets
  pub mapped_servlets_are_declared : All (λ mapping. Contains (servlet_names app) mapping.servlet_name) app.servlet_mappings
  pub servlet_patterns_differ : Differ (servlet_patterns app)
  pub filter_names_differ : Differ (filter_names app)
  pub mapped_filters_are_declared : All (λ mapping. Contains (filter_names app) mapping.filter_name) app.filter_mappings
  pub filtered_servlets_are_known : All (λ mapping. All (λ name. is_known_servlet app name ≡ true) mapping.servlet_names) app.filter_mappings
  pub error_pages_have_paths : All (λ page. is_location page.location ≡ true) app.error_pages
  pub login_page_has_a_path : IfSome app.login (λ login. is_location login.login_page ≡ true)
  pub login_error_page_has_a_path : IfSome app.login (λ login. is_location login.error_page ≡ true)
  pub constraints_are_numbered : AreNumbered app.constraints
  pub roles_differ : Differ app.rules.declared
  pub roles_are_free : All (λ role. is_reserved_role role ≡ false) app.rules.declared
  pub session_timeout_is_bounded : app.session.timeout ≤ MAX_SESSION_TIMEOUT
  pub session_cookie_can_be_set : CanBeSet app.session.cookie
  pub lists_are_short : AllListsAreShort app
