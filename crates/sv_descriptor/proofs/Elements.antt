-- Properties of the elements of a descriptor, each read independently.
use Rattle.std.proofs.Common.{◌≡◌, ℕ, ◌≤◌, Bool, false, true, codes, List, [], length, Ok, arith}
use Rattle.std.specs.Prelude.{IfSome}
use Rattle.sv_descriptor.proofs.Yields.{IsListOf, bind-Ok, holds-Ok, table_of-yields, list_of-yields, optional-Ok, optional_or-Ok}
use Rattle.toml.specs.Data.{Members}
use Rattle.sv_descriptor.specs.Fault.{Located}
use Rattle.sv_descriptor.specs.Table.{optional, optional_or}
use Rattle.sv_descriptor.specs.Value.{truth, table_of}
use Rattle.sv_descriptor.specs.declared.limits.TheConstants.{MAX_LIST_ITEMS}
use Rattle.sv_descriptor.specs.Components.{components}
use Rattle.sv_descriptor.specs.Constraint.{constraints}
use Rattle.sv_descriptor.specs.ErrorPage.{error_page}
use Rattle.sv_descriptor.specs.Filter.{filter_entry, filter_mapping}
use Rattle.sv_descriptor.specs.Ignored.{element_keys}
use Rattle.sv_descriptor.specs.Listener.{listener}
use Rattle.sv_descriptor.specs.Location.{is_location}
use Rattle.sv_descriptor.specs.Login.{login_config}
use Rattle.sv_descriptor.specs.Pages.{pages}
use Rattle.sv_descriptor.specs.Role.{is_reserved_role, security_role}
use Rattle.sv_descriptor.specs.Security.{security}
use Rattle.sv_descriptor.specs.Servlet.{is_reserved_servlet, servlet, servlet_mapping}
use Rattle.sv_descriptor.specs.Session.{default_session, session, session_config}
use Rattle.sv_descriptor.specs.Tables.{tables}
use Rattle.sv_descriptor.specs.Version.{version}
use Rattle.sv_descriptor.specs.WebApp.{top_keys, web_app}
use Rattle.sv_descriptor.specs.WelcomeFile.{welcome_file_list}
use Rattle.sv_descriptor.specs.WellFormed.{HasShortLists}
use Rattle.sv_descriptor.specs.declared.components.Components.{Components}
use Rattle.sv_descriptor.specs.declared.pages.Pages.{Pages}
use Rattle.sv_descriptor.specs.declared.security.Security.{Security}
use Rattle.sv_descriptor.specs.declared.session.SessionConfig.{SessionConfig}
use Rattle.sv_descriptor.specs.declared.version.Version.{Version}
use Rattle.sv_descriptor.specs.declared.web_app.WebApp.{WebApp}
use Rattle.sv_descriptor.proofs.Constraining.{AreConstraints, constraints-yields}
use Rattle.sv_descriptor.proofs.Entries.{HasPages, HasSessions, error_page-Ok, filter_mapping-Ok, login_config-Ok, security_role-Ok, servlet-Ok, servlet_mapping-Ok, session_config-Ok, standard-Ok, welcome_file_list-Ok}

-- A list of tables at an optional key.
tables-Ok : {A : Type 0} (P : A → Type 0) (reads : Members → Located A) → ((members : Members) (a : A) → reads members ≡ Ok a → P a)
    → (key : List ℕ) (members : Members) (found : List A) → optional_or [] (tables reads) key members ≡ Ok found → IsListOf P MAX_LIST_ITEMS found
tables-Ok P reads h key members found e =
    optional_or-Ok (IsListOf P MAX_LIST_ITEMS) [] (tables reads) (record { short = omega arith; each = λ k d l. absurd (omega arith) })
    (list_of-yields P 0 MAX_LIST_ITEMS _ (table_of reads) (table_of-yields P reads h)) key members found e

abbrev Any : {A : Type 0} → A → Type 0
Any a = Unit {0}

-- The properties of each component.
record HasComponents (c : Components) : Type 0 where
  servlets : IsListOf (λ s. is_reserved_servlet s.servlet_name ≡ false) MAX_LIST_ITEMS c.servlets
  servlet_mappings : IsListOf (λ m. length m.url_patterns ≤ MAX_LIST_ITEMS) MAX_LIST_ITEMS c.servlet_mappings
  filters : length c.filters ≤ MAX_LIST_ITEMS
  filter_mappings : IsListOf HasShortLists MAX_LIST_ITEMS c.filter_mappings
  listeners : length c.listeners ≤ MAX_LIST_ITEMS

components-Ok : (members : Members) (c : Components) → components members ≡ Ok c → HasComponents c
components-Ok members c e =
    bind-Ok (optional_or [] (tables servlet) (codes "servlet") members) _ _ e (λ a1 r1 e1.
    bind-Ok (optional_or [] (tables servlet_mapping) (codes "servlet-mapping") members) _ _ e1 (λ a2 r2 e2.
    bind-Ok (optional_or [] (tables filter_entry) (codes "filter") members) _ _ e2 (λ a3 r3 e3.
    bind-Ok (optional_or [] (tables filter_mapping) (codes "filter-mapping") members) _ _ e3 (λ a4 r4 e4.
    bind-Ok (optional_or [] (tables listener) (codes "listener") members) _ _ e4 (λ a5 r5 e5.
    holds-Ok HasComponents _ c e5 (record {
      servlets = tables-Ok _ servlet servlet-Ok (codes "servlet") members a1 r1;
      servlet_mappings = tables-Ok _ servlet_mapping servlet_mapping-Ok (codes "servlet-mapping") members a2 r2;
      filters = (tables-Ok Any filter_entry (λ _ _ _. tt) (codes "filter") members a3 r3).short;
      filter_mappings = tables-Ok HasShortLists filter_mapping filter_mapping-Ok (codes "filter-mapping") members a4 r4;
      listeners = (tables-Ok Any listener (λ _ _ _. tt) (codes "listener") members a5 r5).short;
    }))))))

-- The properties of the pages.
record HasPlaces (p : Pages) : Type 0 where
  welcome_files : length p.welcome_files ≤ MAX_LIST_ITEMS
  error_pages : IsListOf (λ page. is_location page.location ≡ true) MAX_LIST_ITEMS p.error_pages

pages-Ok : (members : Members) (p : Pages) → pages members ≡ Ok p → HasPlaces p
pages-Ok members p e =
    bind-Ok (optional_or [] (table_of welcome_file_list) (codes "welcome-file-list") members) _ _ e (λ a1 r1 e1.
    bind-Ok (optional_or [] (tables error_page) (codes "error-page") members) _ _ e1 (λ a2 r2 e2.
    holds-Ok HasPlaces _ p e2 (record {
      welcome_files = optional_or-Ok (λ files. length files ≤ MAX_LIST_ITEMS) [] (table_of welcome_file_list) (omega arith)
          (table_of-yields _ welcome_file_list welcome_file_list-Ok) (codes "welcome-file-list") members a1 r1;
      error_pages = tables-Ok _ error_page error_page-Ok (codes "error-page") members a2 r2;
    })))

-- The properties of the constraints, roles and login.
record IsSecure (s : Security) : Type 0 where
  constraints : AreConstraints s.constraints
  roles : IsListOf (λ role. is_reserved_role role ≡ false) MAX_LIST_ITEMS s.rules.declared
  login : IfSome s.login HasPages

security-Ok : (deny : Bool) (members : Members) (s : Security) → security deny members ≡ Ok s → IsSecure s
security-Ok deny members s e =
    bind-Ok (optional_or [] constraints (codes "security-constraint") members) _ _ e (λ a1 r1 e1.
    bind-Ok (optional_or [] (tables security_role) (codes "security-role") members) _ _ e1 (λ a2 r2 e2.
    bind-Ok (optional (table_of login_config) (codes "login-config") members) _ _ e2 (λ a3 r3 e3.
    holds-Ok IsSecure _ s e3 (record {
      constraints = optional_or-Ok AreConstraints [] constraints (record { short = omega arith; numbered = λ i d l. absurd (omega arith); few = λ i d l. absurd (omega arith) })
          constraints-yields (codes "security-constraint") members a1 r1;
      roles = tables-Ok _ security_role security_role-Ok (codes "security-role") members a2 r2;
      login = optional-Ok HasPages (table_of login_config) (table_of-yields HasPages login_config login_config-Ok) (codes "login-config") members a3 r3;
    }))))

session-Ok : (its_version : Version) (members : Members) (config : SessionConfig) → session its_version members ≡ Ok config → HasSessions config
session-Ok its_version members config e =
    optional_or-Ok HasSessions default_session (table_of (session_config its_version)) (record { timeout = omega arith; cookie = standard-Ok })
    (table_of-yields HasSessions (session_config its_version) (session_config-Ok its_version)) (codes "session-config") members config e

-- The properties of each element.
pub record HasElements (app : WebApp) : Type 0 where
  pub servlets : IsListOf (λ s. is_reserved_servlet s.servlet_name ≡ false) MAX_LIST_ITEMS app.servlets
  pub servlet_mappings : IsListOf (λ m. length m.url_patterns ≤ MAX_LIST_ITEMS) MAX_LIST_ITEMS app.servlet_mappings
  pub filters : length app.filters ≤ MAX_LIST_ITEMS
  pub filter_mappings : IsListOf HasShortLists MAX_LIST_ITEMS app.filter_mappings
  pub listeners : length app.listeners ≤ MAX_LIST_ITEMS
  pub session : HasSessions app.session
  pub welcome_files : length app.welcome_files ≤ MAX_LIST_ITEMS
  pub error_pages : IsListOf (λ page. is_location page.location ≡ true) MAX_LIST_ITEMS app.error_pages
  pub constraints : AreConstraints app.constraints
  pub roles : IsListOf (λ role. is_reserved_role role ≡ false) MAX_LIST_ITEMS app.rules.declared
  pub login : IfSome app.login HasPages

pub web_app-Ok : (members : Members) (app : WebApp) → web_app members ≡ Ok app → HasElements app
web_app-Ok members app e =
    bind-Ok (element_keys top_keys members) _ _ e (λ _ _ e1.
    bind-Ok (version members) _ _ e1 (λ its_version _ e2.
    bind-Ok (optional_or false truth (codes "deny-uncovered-http-methods") members) _ _ e2 (λ deny _ e3.
    bind-Ok (components members) _ _ e3 (λ a4 r4 e4.
    bind-Ok (session its_version members) _ _ e4 (λ a5 r5 e5.
    bind-Ok (pages members) _ _ e5 (λ a6 r6 e6.
    bind-Ok (security deny members) _ _ e6 (λ a7 r7 e7.
    let c = components-Ok members a4 r4 in
    let p = pages-Ok members a6 r6 in
    let s = security-Ok deny members a7 r7 in
    holds-Ok HasElements _ app e7 (record {
      servlets = c.servlets;
      servlet_mappings = c.servlet_mappings;
      filters = c.filters;
      filter_mappings = c.filter_mappings;
      listeners = c.listeners;
      session = session-Ok its_version members a5 r5;
      welcome_files = p.welcome_files;
      error_pages = p.error_pages;
      constraints = s.constraints;
      roles = s.roles;
      login = s.login;
    }))))))))
