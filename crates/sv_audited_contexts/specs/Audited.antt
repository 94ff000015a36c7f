-- A context of a server, from its descriptor, its users file and its folder.
use Rattle.std.specs.Prelude.{ℕ, Bool, true, false, List, [], Option, None, Some, Ok, Err, is_some, map, if◌then◌else◌}
use Rattle.sv_text.specs.Steps.{◌>>=◌}
use Rattle.sv_audit.specs.Secure.{secure}
use Rattle.sv_constraints.specs.declared.constraint.Constraint.{Constraint}
use Rattle.sv_deployments.specs.declared.folders.FoundContext.{FoundContext}
use Rattle.sv_descriptor.specs.declared.web_app.WebApp.{WebApp}
use Rattle.sv_findings.specs.declared.surroundings.Surroundings.{Surroundings}
use Rattle.sv_program.specs.Configuration.{Step, descriptor_in, each, users_in}
use Rattle.sv_program.specs.FileStore.{FileText}
use Rattle.sv_program.specs.declared.configuration.ContextTexts.{ContextTexts}
use Rattle.sv_realm.specs.declared.account.User.{User}
use Rattle.sv_audited_contexts.specs.ContextFiles.{files_in}
use Rattle.sv_audited_contexts.specs.DescriptorLines.{no_lines, source_lines}
use Rattle.sv_audited_contexts.specs.Held.{held_in}
use Rattle.sv_audited_contexts.specs.ServletPatterns.{mapped_patterns}
use Rattle.sv_audited_contexts.specs.declared.audited_context.AuditedContext.{AuditedContext}
use Rattle.sv_audited_contexts.specs.declared.audited_context.ContextOptions.{ContextOptions}
use Rattle.sv_audited_contexts.specs.declared.audited_context.ContextParts.{ContextParts}
use Rattle.sv_audited_contexts.specs.declared.audited_context.ContextPlace.{ContextPlace}
use Rattle.sv_audited_contexts.specs.declared.audited_context.FindingParts.{FindingParts}
use Rattle.sv_audited_contexts.specs.declared.audited_context.Source.{Source}
use Rattle.sv_audited_contexts.specs.declared.context_files.ContextFiles.{ContextFiles}
use Rattle.sv_audited_contexts.specs.declared.descriptor_lines.SourceLines.{SourceLines}

-- The constraints for a connection whose transport is guaranteed, or for a plain one (section 13.8).
abbrev pub constraints_over : Bool → List Constraint → List Constraint
constraints_over is_secure constraints = if is_secure then secure constraints else constraints

-- The lines on which the constraints and roles of a descriptor begin.
abbrev pub lines_in : FileText → SourceLines
lines_in (Ok text) = source_lines text
lines_in (Err why) = no_lines

abbrev pub source_of : ContextTexts → Source
source_of texts = record { path = texts.context.path; file = texts.context.descriptor; lines = lines_in texts.descriptor }

-- The descriptor, if it is kept.
abbrev pub kept_descriptor : Bool → ContextTexts → Step (Option WebApp)
kept_descriptor false texts = Ok None
kept_descriptor true texts = do
  app ← descriptor_in texts
  Ok (Some app)

-- The constraints of a descriptor, if their transport requirements are dropped.
abbrev pub kept_transport : Bool → List Constraint → Option (List Constraint)
kept_transport is_secure constraints = if is_secure then Some constraints else None

abbrev pub parts_with : Bool → ContextTexts → WebApp → List User → ContextFiles → FindingParts
parts_with is_secure texts app users its_files = record {
  held = held_in texts.context.users users;
  files = its_files;
  with_transport = kept_transport is_secure app.constraints;
}

-- The roles of the users, the files in the folder, and the constraints with their transport requirements if these are
-- dropped.
abbrev pub finding_parts : ContextOptions → FoundContext → WebApp → List User → Step FindingParts
finding_parts options found app users = do
  files ← files_in options.has_unknown_files found.texts.context.files found.files app.login
  Ok (parts_with options.is_secure found.texts app users files)

abbrev pub parts_of : Option WebApp → List User → FindingParts → ContextParts
parts_of kept users parts = record { descriptor = kept; realm = users; findings = parts }

-- The descriptor if it is kept, the users, and what the findings need besides this descriptor.
abbrev pub context_parts : ContextOptions → FoundContext → WebApp → Step ContextParts
context_parts options found app = do
  kept ← kept_descriptor options.keeps_descriptor found.texts
  users ← users_in found.texts
  parts ← finding_parts options found app users
  Ok (parts_of kept users parts)

-- The paths of all contexts, that of this one, and the patterns of its servlets.
abbrev pub place_of : List (List ℕ) → ContextTexts → WebApp → ContextPlace
place_of paths texts app = record { contexts = paths; path = texts.context.path; servlets = mapped_patterns app.servlet_mappings }

-- What surrounds the constraints of a context, given the paths of all contexts.
abbrev pub surroundings_of : List (List ℕ) → ContextTexts → WebApp → FindingParts → Surroundings
surroundings_of paths texts app parts = record {
  contexts = paths;
  path = texts.context.path;
  has_login = is_some app.login;
  held = parts.held;
  servlets = mapped_patterns app.servlet_mappings;
  files = parts.files.paths;
  login_page = parts.files.login_page;
  with_transport = parts.with_transport;
}

-- The context with this descriptor, these parts and these surroundings.
abbrev pub context_of : Bool → Source → WebApp → ContextParts → Surroundings → AuditedContext
context_of is_secure its_source app parts its_surroundings = record {
  source = its_source;
  has_login = is_some app.login;
  constraints = constraints_over is_secure app.constraints;
  rules = app.rules;
  mappings = app.servlet_mappings;
  realm = parts.realm;
  descriptor = parts.descriptor;
  surroundings = its_surroundings;
}

-- The context, given the paths of all contexts, or the first fault of its descriptor, then of its users, then of its folder.
abbrev pub audited_context : ContextOptions → List (List ℕ) → FoundContext → Step AuditedContext
audited_context options paths found = do
  app ← descriptor_in found.texts
  parts ← context_parts options found app
  Ok (context_of options.is_secure (source_of found.texts) app parts (surroundings_of paths found.texts app parts.findings))

-- The paths of contexts.
abbrev pub paths_of : List FoundContext → List (List ℕ)
paths_of found = map (λ context. context.texts.context.path) found

abbrev pub audited_contexts : ContextOptions → List FoundContext → Step (List AuditedContext)
audited_contexts options found = each (audited_context options (paths_of found)) found
