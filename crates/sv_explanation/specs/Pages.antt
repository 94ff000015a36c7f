-- The pages of a context, to which a request is dispatched (Jakarta Servlet 6.0, sections 9.4, 10.9.2 and 13.6.3).
use Rattle.std.specs.Prelude.{ℕ, Bool, true, false, ◌&&◌, List, codes, is_none, Option, None, Some, Result, Ok, Err}
use Rattle.std.specs.Option.{option_map}
use Rattle.sv_descriptor.specs.declared.web_app.WebApp.{WebApp}
use Rattle.sv_error_pages.specs.Choice.{page_for}
use Rattle.sv_files.specs.Answer.{Answer, Content, Welcome, Slash, Missing, Method}
use Rattle.sv_files.specs.declared.files.File.{File}
use Rattle.sv_mapping.specs.declared.kind.Kind.{Kind}
use Rattle.sv_mapping.specs.declared.kind.Kind.TheVariants.{Forward, Error}
use Rattle.sv_uri.specs.Canonical.{canonical}
use Rattle.sv_uri.specs.declared.fault.PathFault.{PathFault}
use Rattle.sv_uri.specs.declared.path.Canon.{Canon}
use Rattle.sv_explanation.specs.ContextFiles.{answer_in}
use Rattle.sv_explanation.specs.Servlets.{servlet_at}
use Rattle.sv_explanation.specs.declared.page.ForwardedPage.{ForwardedPage}
use Rattle.sv_explanation.specs.declared.page.Page.{Page}
use Rattle.sv_explanation.specs.declared.statuses.TheConstants.{NOT_FOUND}

-- Whether the file servlet finds nothing.
abbrev pub is_nothing : Answer → Bool
is_nothing (Content bytes) = false
is_nothing (Welcome path) = false
is_nothing Slash = false
is_nothing Missing = true
is_nothing Method = false

-- Whether neither a servlet nor the file servlet answers a dispatch of this kind to the path. Its method does not
-- matter.
abbrev pub is_vacant : WebApp → Kind → List File → List ℕ → Bool
is_vacant app kind files path = is_none (servlet_at app.servlet_mappings path) && is_nothing (answer_in app files path (codes "GET") kind)

-- Each location of a descriptor has a canonical path.
abbrev pub is_vacant_at : WebApp → Kind → List File → Result Canon PathFault → Bool
is_vacant_at app kind files (Ok canon) = is_vacant app kind files canon.path
is_vacant_at app kind files (Err fault) = false

-- Whether the page at a location is known to be missing.
abbrev pub is_missing : WebApp → Option (List File) → Kind → List ℕ → Bool
is_missing app None kind its_location = false
is_missing app (Some files) kind its_location = is_vacant_at app kind files (canonical its_location)

abbrev pub page_at : WebApp → Option (List File) → Kind → List ℕ → Page
page_at app files kind its_location = record { location = its_location; is_missing = is_missing app files kind its_location }

-- The page for an error that the container raises.
abbrev pub error_page : WebApp → Option (List File) → ℕ → Option Page
error_page app files status = option_map (page_at app files Error) (page_for app.error_pages status None)

-- A page to which the container forwards a request. If it is missing, the container raises the error 404.
abbrev pub forwarded_page : WebApp → Option (List File) → List ℕ → ForwardedPage
forwarded_page app files its_location = record { page = page_at app files Forward its_location; not_found = error_page app files NOT_FOUND }
