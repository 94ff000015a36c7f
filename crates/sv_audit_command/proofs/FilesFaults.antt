-- The faults that the texts of files can have.
use Rattle.std.proofs.Common.{◌≡◌, ℕ, Bool, true, false, if◌then◌else◌, List, [], ◌∷◌, Option, Some, None, Result, Ok, Err, refl, subst}
use Rattle.std.specs.Prelude.{is_some, option_copied}
use Rattle.std.specs.List.{list_any}
use Rattle.sv_deployments.specs.Folders.{FolderFiles}
use Rattle.sv_deployments.specs.declared.folders.FoundContext.{FoundContext}
use Rattle.sv_descriptor.specs.Descriptor.{located_descriptor}
use Rattle.sv_descriptor.specs.Fault.{Located}
use Rattle.sv_descriptor.specs.Server.{located_server}
use Rattle.sv_descriptor.specs.Users.{located_users}
use Rattle.sv_descriptor.specs.declared.login.FormLogin.{FormLogin}
use Rattle.sv_descriptor.specs.declared.web_app.WebApp.{WebApp}
use Rattle.sv_realm.specs.Realm.{caller_named}
use Rattle.sv_explanation.specs.Explanation.{explanation}
use Rattle.sv_explanation.specs.declared.explanation.Explanation.{Explanation}
use Rattle.sv_policy.specs.declared.explain_fault.ExplainFault.{ExplainFault}
use Rattle.sv_policy.specs.declared.explain_fault.ExplainFault.TheVariants as explain
use Rattle.sv_text.specs.Steps.{◌>>=◌}
use Rattle.sv_program.specs.Configuration.{Step, descriptor_in, each, read_from, server_in, text_of, users_in, users_named}
use Rattle.sv_program.specs.FileStore.{FileText}
use Rattle.sv_program.specs.Shown.{quoted}
use Rattle.sv_program.specs.declared.command_fault.CommandFault.{CommandFault}
use Rattle.sv_program.specs.declared.command_fault.CommandFault.TheVariants.{Input, Output, File, Folder, Findings}
use Rattle.sv_program.specs.declared.command_fault.CommandFault.TheVariants as command
use Rattle.sv_program.specs.declared.configuration.ContextTexts.{ContextTexts}
use Rattle.sv_audit_command.specs.AuditCommand.{report_for}
use Rattle.sv_audited_contexts.specs.Audited.{audited_context, audited_contexts, context_parts, finding_parts, kept_descriptor, paths_of}
use Rattle.sv_audit_command.specs.Report.{access_report, asked_text, context_options, difference_report, report_by, report_on}
use Rattle.sv_audit_command.specs.ComparedServers.{checked_server, other_context, other_server}
use Rattle.sv_audit_command.specs.ExplainedRequest.{explained, method_of, sites_of, told}
use Rattle.sv_audited_contexts.specs.ContextFiles.{audited_files, files_in, files_without_folder}
use Rattle.sv_audited_contexts.specs.LineFile.{located}
use Rattle.sv_audit_command.specs.Viewer.{check_viewer, knows_role}
use Rattle.sv_audited_contexts.specs.declared.audited_context.AuditedContext.{AuditedContext}
use Rattle.sv_audited_contexts.specs.declared.audited_context.ContextOptions.{ContextOptions}
use Rattle.sv_audit_command.specs.declared.further_files.FurtherFiles.{FurtherFiles}
use Rattle.sv_audit_command.specs.declared.further_files.OtherFiles.{OtherFiles}
use Rattle.sv_audit_command.specs.declared.access_options.AccessOptions.{AccessOptions}
use Rattle.sv_audit_command.specs.declared.access_options.Asked.{Asked}
use Rattle.sv_audit_command.specs.declared.access_options.Asked.TheVariants as asked

-- Faults of standard streams are excluded, and findings.
abbrev pub IsOfFiles : CommandFault → Type 0
IsOfFiles Input = ⊥
IsOfFiles Output = ⊥
IsOfFiles (Findings count) = ⊥
IsOfFiles other = Unit {0}

abbrev pub AreOfFiles : {A : Type 0} → Step A → Type 0
AreOfFiles step = (fault : CommandFault) → step ≡ Err fault → IsOfFiles fault

abbrev failed : {A : Type 0} → CommandFault → Step A
failed fault = Err fault

only : {A : Type 0} (one fault : CommandFault) → IsOfFiles one → failed {A = A} one ≡ failed fault → IsOfFiles fault
only one fault are h = let same : one ≡ fault = cc in subst IsOfFiles same are

onward : {A B : Type 0} (step : Step A) (next : A → Step B) → AreOfFiles step → ((a : A) → AreOfFiles (next a)) → AreOfFiles (step >>= next)
onward (Ok a) next first second = second a
onward (Err one) next first second = λ fault h. only one fault (first one refl) h

done : {A : Type 0} (a : A) → AreOfFiles (Ok a)
done a = λ fault h. cc

text_faults : (name : List ℕ) (text : FileText) → AreOfFiles (text_of name text)
text_faults name (Ok text) = done text
text_faults name (Err why) = λ fault h. only (File name why) fault tt h

server_read : (name text : List ℕ) {A : Type 0} (read : Located A) → AreOfFiles (read_from command.Server name text read)
server_read name text (Ok a) = done a
server_read name text (Err found) = λ fault h. only (command.Server (record { file = name; text = text; found = found })) fault tt h

descriptor_read : (path name text : List ℕ) {A : Type 0} (read : Located A) → AreOfFiles (read_from (command.Descriptor path) name text read)
descriptor_read path name text (Ok a) = done a
descriptor_read path name text (Err found) = λ fault h. only (command.Descriptor path (record { file = name; text = text; found = found })) fault tt h

users_read : (path name text : List ℕ) {A : Type 0} (read : Located A) → AreOfFiles (read_from (command.Users path) name text read)
users_read path name text (Ok a) = done a
users_read path name text (Err found) = λ fault h. only (command.Users path (record { file = name; text = text; found = found })) fault tt h

each_faults : {A B : Type 0} (step : A → Step B) → ((a : A) → AreOfFiles (step a)) → (items : List A) → AreOfFiles (each step items)
each_faults step are [] = done []
each_faults step are (a ∷ rest) = onward (step a) _ (are a) (λ b. onward (each step rest) _ (each_faults step are rest) (λ bs. done (b ∷ bs)))

app_faults : (at : ContextTexts) → AreOfFiles (descriptor_in at)
app_faults at =
    onward (text_of at.context.descriptor at.descriptor) _ (text_faults at.context.descriptor at.descriptor)
    (λ text. descriptor_read at.context.path at.context.descriptor text (located_descriptor text))

named_faults : (path : List ℕ) (name : Option (List ℕ)) (file : FileText) → AreOfFiles (users_named path name file)
named_faults path None file = done []
named_faults path (Some name) file = onward (text_of name file) _ (text_faults name file) (λ text. users_read path name text (located_users text))

kept_faults : (keeps : Bool) (at : ContextTexts) → AreOfFiles (kept_descriptor keeps at)
kept_faults false at = done None
kept_faults true at = onward (descriptor_in at) _ (app_faults at) (λ app. done (Some app))

folder_faults : (has_unknown : Bool) (name : List ℕ) (found : FolderFiles) → AreOfFiles (audited_files has_unknown name found)
folder_faults has_unknown [] found = done (files_without_folder has_unknown)
folder_faults has_unknown (first ∷ rest) (Ok files) = done (Some files)
folder_faults has_unknown (first ∷ rest) (Err entry) = λ fault h. only (Folder (first ∷ rest) entry) fault tt h

in_faults : (has_unknown : Bool) (name : List ℕ) (found : FolderFiles) (login : Option FormLogin) → AreOfFiles (files_in has_unknown name found login)
in_faults has_unknown name found login = onward (audited_files has_unknown name found) _ (folder_faults has_unknown name found) (λ files. done _)

parts_faults : (options : ContextOptions) (at : FoundContext) (app : WebApp) → AreOfFiles (context_parts options at app)
parts_faults options at app =
    onward (kept_descriptor options.keeps_descriptor at.texts) _ (kept_faults options.keeps_descriptor at.texts)
    (λ kept. onward (users_in at.texts) _ (named_faults at.texts.context.path at.texts.context.users at.texts.users)
    (λ users. onward (finding_parts options at app users) _
    (onward (files_in options.has_unknown_files at.texts.context.files at.files app.login) _ (in_faults options.has_unknown_files at.texts.context.files at.files app.login) (λ files. done _))
    (λ parts. done _)))

context_faults : (options : ContextOptions) (paths : List (List ℕ)) (at : FoundContext) → AreOfFiles (audited_context options paths at)
context_faults options paths at =
    onward (descriptor_in at.texts) _ (app_faults at.texts) (λ app. onward (context_parts options at app) _ (parts_faults options at app) (λ parts. done _))

other_faults : (is_secure : Bool) (at : ContextTexts) → AreOfFiles (other_context is_secure at)
other_faults is_secure at =
    onward (descriptor_in at) _ (app_faults at) (λ app. onward (users_in at) _ (named_faults at.context.path at.context.users at.users) (λ users. done _))

server_faults : (name : List ℕ) (file : FileText) → AreOfFiles (server_in name file)
server_faults name file = onward (text_of name file) _ (text_faults name file) (λ text. server_read name text (located_server text))

difference_faults : (options : AccessOptions) (name : List ℕ) (other : OtherFiles) (contexts : List AuditedContext) → AreOfFiles (difference_report options name other contexts)
difference_faults options name other contexts =
    onward (other_server options.is_secure name other) _
    (onward (checked_server name other) _ (onward (server_in name other.server) _ (server_faults name other.server) (λ server. done {A = Unit {0}} tt))
    (λ known. each_faults (other_context options.is_secure) (other_faults options.is_secure) other.contexts))
    (λ others. done _)

access_faults : (options : AccessOptions) (diff : Option (List ℕ)) (accepted : List ℕ) (other : OtherFiles) (contexts : List AuditedContext) → AreOfFiles (access_report options diff accepted other contexts)
access_faults options None accepted other contexts = done _
access_faults options (Some name) accepted other contexts = difference_faults options name other contexts

method_faults : (method target : List ℕ) (found : Result Explanation ExplainFault) → AreOfFiles (told method target found)
method_faults method target (Ok found) = done _
method_faults method target (Err explain.BadMethod) = λ fault h. only (command.Method (quoted method)) fault tt h
method_faults method target (Err explain.NoSuchUser) = λ fault h. only (command.User (quoted [])) fault tt h
method_faults method target (Err explain.NoMemory) = λ fault h. only command.NoMemory fault tt h

by_faults : (options : AccessOptions) (path : Option (List ℕ)) (accepted : List ℕ) (other : OtherFiles) (contexts : List AuditedContext) → AreOfFiles (report_by options path accepted other contexts)
by_faults options None accepted other contexts = access_faults options (option_copied options.diff) accepted other contexts
by_faults options (Some target) accepted other contexts =
    onward (explained options target contexts) _
    (method_faults (method_of options) target (explanation (sites_of options.viewer contexts) (method_of options) target)) (λ text. done _)

further_faults : (name : Option (List ℕ)) (file : FileText) → AreOfFiles (asked_text name file)
further_faults None file = done []
further_faults (Some name) file = text_faults name file

chosen : (known : Bool) (found : CommandFault) → IsOfFiles found → AreOfFiles {A = Unit {0}} (if known then Ok tt else Err found)
chosen true found are = done {A = Unit {0}} tt
chosen false found are = λ fault h. only found fault are h

viewer_faults : (viewer : Option Asked) (contexts : List AuditedContext) → AreOfFiles (check_viewer viewer contexts)
viewer_faults None contexts = done {A = Unit {0}} tt
viewer_faults (Some (asked.User name)) contexts =
    chosen (list_any (λ (context : AuditedContext). is_some (caller_named context.realm name.now)) contexts) (command.User (quoted name.now)) tt
viewer_faults (Some (asked.Role role)) contexts = chosen (list_any (knows_role role.now) contexts) (command.Role (quoted role.now)) tt

report_faults : (options : AccessOptions) (texts : List FoundContext) (files : FurtherFiles) → AreOfFiles (report_on options texts files)
report_faults options texts files =
    onward (audited_contexts (context_options options) texts) _ (each_faults (audited_context (context_options options) (paths_of texts)) (context_faults (context_options options) (paths_of texts)) texts) (λ contexts.
    onward (asked_text (option_copied options.accept) files.accept) _ (further_faults (option_copied options.accept) files.accept) (λ accepted.
    onward (asked_text (option_copied options.lines) files.lines) _ (further_faults (option_copied options.lines) files.lines) (λ lines.
    onward (check_viewer options.viewer contexts) _ (viewer_faults options.viewer contexts) (λ known.
    by_faults options (option_copied options.path) accepted files.other (located (option_copied options.lines) lines contexts)))))

pub all_faults : (options : AccessOptions) (config : List ℕ) (file : FileText) (texts : List FoundContext) (files : FurtherFiles) → AreOfFiles (report_for options config file texts files)
all_faults options config file texts files =
    onward (server_in config file) _ (server_faults config file)
    (λ server. report_faults options texts files)
