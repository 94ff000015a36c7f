-- Jakarta Servlet 6.0 section 14.4 (web-app): the elements of a deployment descriptor.
use Rattle.std.specs.Prelude.{ℕ, Bool, false, List, [], ◌∷◌, codes, Ok}
use Rattle.toml.specs.Data.{Members}
use Rattle.sv_text.specs.Steps.{◌>>=◌, ◌>>◌}
use Rattle.sv_descriptor.specs.Fault.{Located}
use Rattle.sv_descriptor.specs.Table.{optional_or}
use Rattle.sv_descriptor.specs.Value.{truth}
use Rattle.sv_descriptor.specs.Components.{components}
use Rattle.sv_descriptor.specs.Ignored.{element_keys}
use Rattle.sv_descriptor.specs.Pages.{pages}
use Rattle.sv_descriptor.specs.Security.{security}
use Rattle.sv_descriptor.specs.Session.{session}
use Rattle.sv_descriptor.specs.Version.{version}
use Rattle.sv_descriptor.specs.declared.components.Components.{Components}
use Rattle.sv_descriptor.specs.declared.pages.Pages.{Pages}
use Rattle.sv_descriptor.specs.declared.security.Security.{Security}
use Rattle.sv_descriptor.specs.declared.session.SessionConfig.{SessionConfig}
use Rattle.sv_descriptor.specs.declared.version.Version.{Version}
use Rattle.sv_descriptor.specs.declared.web_app.WebApp.{WebApp}

abbrev pub top_keys : List (List ℕ)
top_keys =
    codes "version" ∷ codes "deny-uncovered-http-methods" ∷ codes "servlet" ∷ codes "servlet-mapping" ∷ codes "filter" ∷ codes "filter-mapping"
    ∷ codes "listener" ∷ codes "session-config" ∷ codes "welcome-file-list" ∷ codes "error-page" ∷ codes "security-constraint"
    ∷ codes "security-role" ∷ codes "login-config" ∷ []

-- The elements, combined into one value.
abbrev pub assembled : Version → Components → SessionConfig → Pages → Security → WebApp
assembled its_version its_components its_session its_pages its_security = record {
  version = its_version;
  servlets = its_components.servlets;
  servlet_mappings = its_components.servlet_mappings;
  filters = its_components.filters;
  filter_mappings = its_components.filter_mappings;
  listeners = its_components.listeners;
  session = its_session;
  welcome_files = its_pages.welcome_files;
  error_pages = its_pages.error_pages;
  constraints = its_security.constraints;
  rules = its_security.rules;
  login = its_security.login;
}

-- The elements, after the components have been read.
abbrev pub behind_components : Version → Bool → Components → Members → Located WebApp
behind_components its_version deny its_components table = do
  its_session ← session its_version table
  its_pages ← pages table
  its_security ← security deny table
  Ok (assembled its_version its_components its_session its_pages its_security)

-- The elements, read in their order.
abbrev pub web_app : Members → Located WebApp
web_app table = do
  element_keys top_keys table
  its_version ← version table
  deny ← optional_or false truth (codes "deny-uncovered-http-methods") table
  its_components ← components table
  behind_components its_version deny its_components table
