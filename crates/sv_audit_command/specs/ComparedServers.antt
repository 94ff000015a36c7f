-- What two configurations of a server decide differently (Jakarta Servlet 6.0, section 13.8).
use Rattle.std.specs.Prelude.{ℕ, ◌+◌, ◌-◌, ◌^◌, Bool, ◌||◌, List, map, codes, is_none, is_some, min, Option, None, Some, Ok, if◌then◌else◌}
use Rattle.std.specs.List.{count_by}
use Rattle.sv_text.specs.Steps.{◌>>=◌}
use Rattle.sv_descriptor.specs.declared.web_app.WebApp.{WebApp}
use Rattle.sv_difference.specs.DifferenceJson.{difference_json}
use Rattle.sv_difference.specs.DifferenceText.{difference_text}
use Rattle.sv_difference.specs.ServerDifference.{server_difference}
use Rattle.sv_difference.specs.declared.contexts.ComparedContext.{ComparedContext}
use Rattle.sv_difference.specs.declared.contexts.ContextDifference.{ContextDifference}
use Rattle.sv_difference.specs.declared.contexts.ServerDifference.{ServerDifference}
use Rattle.sv_program.specs.Configuration.{Step, descriptor_in, each, server_in, users_in}
use Rattle.sv_program.specs.declared.configuration.ContextTexts.{ContextTexts}
use Rattle.sv_audited_contexts.specs.Audited.{constraints_over}
use Rattle.sv_audit_command.specs.Kinds.{lists_kind}
use Rattle.sv_audit_command.specs.declared.access_options.Format.{Format}
use Rattle.sv_audit_command.specs.declared.access_options.Format.TheVariants as format
use Rattle.sv_audited_contexts.specs.declared.audited_context.AuditedContext.{AuditedContext}
use Rattle.sv_audit_command.specs.declared.further_files.OtherFiles.{OtherFiles}

-- A context of the first server.
abbrev pub compared : AuditedContext → ComparedContext
compared context = record {
  path = context.source.path;
  file = context.source.file;
  has_login = context.has_login;
  constraints = context.constraints;
  rules = context.rules;
}

-- A context of the other server with this descriptor.
abbrev pub other_with : Bool → ContextTexts → WebApp → ComparedContext
other_with is_secure texts app = record {
  path = texts.context.path;
  file = texts.context.descriptor;
  has_login = is_some app.login;
  constraints = constraints_over is_secure app.constraints;
  rules = app.rules;
}

-- The context, or the first fault of its descriptor and then of its users.
abbrev pub other_context : Bool → ContextTexts → Step ComparedContext
other_context is_secure texts = do
  app ← descriptor_in texts
  users ← users_in texts
  Ok (other_with is_secure texts app)

-- The other server file, which has this name, may have a fault.
abbrev pub checked_server : List ℕ → OtherFiles → Step (Unit {0})
checked_server name other = do
  server ← server_in name other.server
  Ok tt

-- The contexts of the other server, or the first fault of its files.
abbrev pub other_server : Bool → List ℕ → OtherFiles → Step (List ComparedContext)
other_server is_secure name other = do
  known ← checked_server name other
  each (other_context is_secure) other.contexts

-- The difference in a form: JSON, or text for every other one.
abbrev pub written : Format → ServerDifference → List ℕ
written format.Text found = difference_text found
written format.Json found = difference_json found
written format.Html found = difference_text found
written format.Keys found = difference_text found

-- Whether only one of the servers has the context. In the other one, another context serves its requests, or none does
-- (section 12.1), so visitors may enter there who did not before.
unfoldable pub is_of_one : ContextDifference → Bool
is_of_one context = is_none context.before || is_none context.after

-- The number of the opened differences, and of the contexts that only one of the servers has.
abbrev pub opened_or_of_one : ServerDifference → ℕ
opened_or_of_one found = min (found.opened + count_by is_of_one found.contexts) (2 ^ 64 - 1)

-- That number, if the kinds list `opened`; none are asked for without kinds.
abbrev pub opened_among : List ℕ → ServerDifference → ℕ
opened_among kinds found = if lists_kind kinds (codes "opened") then opened_or_of_one found else 0

abbrev pub opened_count : Option (List ℕ) → ServerDifference → ℕ
opened_count None found = 0
opened_count (Some kinds) found = opened_among kinds found

-- What differs between the contexts of two servers.
abbrev pub difference : List AuditedContext → List ComparedContext → ServerDifference
difference contexts others = server_difference (map compared contexts) others
