-- What answers a request that enters (Jakarta Servlet 6.0, sections 6.2.4, 10.10, 12.1 and 12.2).
use Rattle.std.specs.Prelude.{ℕ, List, [], ◌++◌, codes, map, slice_index_or, Option, None, Some}
use Rattle.std.specs.Option.{option_map_or}
use Rattle.sv_chain.specs.FilterChain.{filter_chain}
use Rattle.sv_descriptor.specs.Agreement.{filter_names}
use Rattle.sv_descriptor.specs.declared.web_app.WebApp.{WebApp}
use Rattle.sv_files.specs.Answer as files
use Rattle.sv_files.specs.declared.files.File.{File}
use Rattle.sv_mapping.specs.declared.kind.Kind.TheVariants.{Request}
use Rattle.sv_uri.specs.LocationField.{location}
use Rattle.sv_uri.specs.declared.path.Canon.{Canon}
use Rattle.sv_explanation.specs.ContextFiles.{answer_in}
use Rattle.sv_explanation.specs.Pages.{error_page}
use Rattle.sv_explanation.specs.Servlets.{servlet_at}
use Rattle.sv_explanation.specs.declared.explanation.Answer.{Answer}
use Rattle.sv_explanation.specs.declared.explanation.Answer.TheVariants.{Enters}
use Rattle.sv_explanation.specs.declared.responder.MatchedServlet.{MatchedServlet}
use Rattle.sv_explanation.specs.declared.responder.Responder.{Responder}
use Rattle.sv_explanation.specs.declared.responder.Responder.TheVariants as responders
use Rattle.sv_explanation.specs.declared.site_context.SiteContext.{SiteContext}
use Rattle.sv_explanation.specs.declared.statuses.TheConstants.{METHOD_NOT_ALLOWED, NOT_FOUND}

-- The name that filter mappings know a servlet by; that of the file servlet is `default`.
abbrev pub name_of : Option MatchedServlet → List ℕ
name_of None = codes "default"
name_of (Some servlet) = servlet.name

-- The names of the filters that a request to this path passes before this servlet, in order.
abbrev pub filters_before : WebApp → List ℕ → List ℕ → List (List ℕ)
filters_before app path servlet = map (λ place. slice_index_or (filter_names app) place []) (filter_chain app path servlet Request)

-- The location of a redirect to a path within a context, with the query of the request (RFC 9110, section 10.2.2).
abbrev pub redirect : List ℕ → List ℕ → Option (List ℕ) → List ℕ
redirect context_path path query = location (context_path ++ path) ++ option_map_or (λ text. codes "?" ++ text) query []

-- What answers a request for this path, by the answer of the file servlet.
abbrev pub responder_by : SiteContext → Option (List File) → Canon → files.Answer → Responder
responder_by context known canon (files.Content bytes) = responders.File canon.path
responder_by context known canon (files.Welcome page) = responders.Welcome page (redirect context.path page canon.query)
responder_by context known canon files.Slash = responders.Folder (redirect context.path (canon.path ++ codes "/") canon.query)
responder_by context known canon files.Missing = responders.Missing (error_page context.descriptor known NOT_FOUND)
responder_by context known canon files.Method = responders.NotAllowed (error_page context.descriptor known METHOD_NOT_ALLOWED)

-- What answers where no servlet takes the path.
abbrev pub file_responder : SiteContext → Option (List File) → List ℕ → Canon → Responder
file_responder context None method canon = responders.Files
file_responder context (Some known) method canon =
    responder_by context (Some known) canon (answer_in context.descriptor known canon.path method Request)

abbrev pub responder_with : SiteContext → Option (List File) → List ℕ → Canon → Option MatchedServlet → Responder
responder_with context known method canon None = file_responder context known method canon
responder_with context known method canon (Some servlet) = responders.Servlet servlet

-- A request enters, and this servlet takes its path, or none does.
abbrev pub enters_with : SiteContext → Option (List File) → List ℕ → Canon → Option MatchedServlet → Answer
enters_with context known method canon servlet =
    Enters (filters_before context.descriptor canon.path (name_of servlet)) (responder_with context known method canon servlet)

-- A request enters, in a context with these files if they are known.
abbrev pub enters : SiteContext → Option (List File) → List ℕ → Canon → Answer
enters context known method canon = enters_with context known method canon (servlet_at context.descriptor.servlet_mappings canon.path)
