-- The explanation of one request to the contexts of a server (Jakarta Servlet 6.0, sections 12.1 and 13.8).
use Rattle.std.specs.Prelude.{ℕ, List, [], codes, option_copied, unwrap_or, Option, Result, Ok, Err}
use Rattle.std.specs.List.{flat_map}
use Rattle.std.specs.Option.{option_map, option_to_list}
use Rattle.sv_descriptor.specs.declared.web_app.WebApp.{WebApp}
use Rattle.sv_explanation.specs.Explanation.{explanation}
use Rattle.sv_explanation.specs.Text.{explanation_text}
use Rattle.sv_report.specs.Folded.{folded}
use Rattle.sv_explanation.specs.declared.explanation.Explanation.{Explanation}
use Rattle.sv_explanation.specs.declared.site_context.SiteContext.{SiteContext}
use Rattle.sv_policy.specs.declared.explain_fault.ExplainFault.{ExplainFault}
use Rattle.sv_policy.specs.declared.explain_fault.ExplainFault.TheVariants as explain
use Rattle.sv_program.specs.Configuration.{Step}
use Rattle.sv_program.specs.Shown.{quoted}
use Rattle.sv_program.specs.declared.command_fault.CommandFault.{CommandFault}
use Rattle.sv_program.specs.declared.command_fault.CommandFault.TheVariants as fault
use Rattle.sv_audit_command.specs.Viewer.{caller_in}
use Rattle.sv_audit_command.specs.declared.access_options.AccessOptions.{AccessOptions}
use Rattle.sv_audit_command.specs.declared.access_options.Asked.{Asked}
use Rattle.sv_audited_contexts.specs.declared.audited_context.AuditedContext.{AuditedContext}

-- The context with this descriptor, as the caller meets it.
abbrev pub site_with : Option Asked → AuditedContext → WebApp → SiteContext
site_with asked context app = record {
  path = context.source.path;
  file = context.source.file;
  descriptor = app;
  constraints = context.constraints;
  lines = context.source.lines.constraints;
  caller = caller_in asked context.realm;
  files = context.surroundings.files;
}

abbrev pub site_of : Option Asked → AuditedContext → Option SiteContext
site_of asked context = option_map (site_with asked context) context.descriptor

-- The contexts whose descriptors are kept.
abbrev pub sites_of : Option Asked → List AuditedContext → List SiteContext
sites_of asked contexts = flat_map (λ context. option_to_list (site_of asked context)) contexts

abbrev pub fault_of : List ℕ → ExplainFault → CommandFault
fault_of method explain.BadMethod = fault.Method (quoted method)
fault_of method explain.NoSuchUser = fault.User (quoted [])
fault_of method explain.NoMemory = fault.NoMemory

abbrev pub told : List ℕ → List ℕ → Result Explanation ExplainFault → Step (List ℕ)
told method target (Ok found) = Ok (folded (explanation_text method target found))
told method target (Err found) = Err (fault_of method found)

-- The explanation in sentences of at most 100 characters a line, or the fault of the method.
abbrev pub explained_at : List SiteContext → List ℕ → List ℕ → Step (List ℕ)
explained_at sites method target = told method target (explanation sites method target)

-- The method of the request: `GET` if none is named.
abbrev pub method_of : AccessOptions → List ℕ
method_of options = unwrap_or (option_copied options.method) (codes "GET")

abbrev pub explained : AccessOptions → List ℕ → List AuditedContext → Step (List ℕ)
explained options target contexts = explained_at (sites_of options.viewer contexts) (method_of options) target
