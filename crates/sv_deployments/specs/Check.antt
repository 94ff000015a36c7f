-- The check of a server's contexts: what each of them has, and the first fault of each of its files.
use Rattle.std.specs.Prelude.{◌≡◌, ℕ, List, [], ◌∷◌, ◌++◌, length, map, flat_map, sum_by, Option, Some, None, MatchResult, Result, Ok, Err}
use Rattle.sv_text.specs.Gives.{Gives}
use Rattle.sv_text.specs.Steps.{◌>>=◌}
use Rattle.sv_descriptor.specs.declared.web_app.WebApp.{WebApp}
use Rattle.sv_files.specs.declared.files.File.{File}
use Rattle.sv_program.specs.CommandFault.{command_fault, UnlessNoMemory}
use Rattle.sv_program.specs.Configuration.{Step, descriptor_in, each, server_in, users_in}
use Rattle.sv_program.specs.FileStore.{FileText, Giving}
use Rattle.sv_program.specs.declared.command_fault.CommandFault.{CommandFault}
use Rattle.sv_program.specs.declared.configuration.ContextTexts.{ContextTexts}
use Rattle.sv_deployments.specs.Configuration.{AreGiven}
use Rattle.sv_deployments.specs.Deployments.{Deployed, components_in, deployment_of}
use Rattle.sv_deployments.specs.Files.{files_in}
use Rattle.sv_deployments.specs.Folders.{FolderGiving}
use Rattle.sv_deployments.specs.declared.check.CheckedContext.{CheckedContext}
use Rattle.sv_deployments.specs.declared.check.CheckedServer.{CheckedServer}
use Rattle.sv_deployments.specs.declared.check.ContextCounts.{ContextCounts}
use Rattle.sv_deployments.specs.declared.folders.FoundContext.{FoundContext}

-- the fault of a step, if it has one
abbrev pub fault_of : {A : Type 0} → Step A → List CommandFault
fault_of (Ok value) = []
fault_of (Err fault) = fault ∷ []

-- the fault of the classes that a descriptor names; none if the descriptor itself has a fault
abbrev pub class_fault_of : ContextTexts → Step WebApp → List CommandFault
class_fault_of texts (Ok app) = fault_of (components_in texts app)
class_fault_of texts (Err fault) = []

-- the faults of a context: the first one of its descriptor, of its users file, of its folder and of its classes
abbrev pub context_faults : FoundContext → List CommandFault
context_faults found =
    fault_of (descriptor_in found.texts) ++ fault_of (users_in found.texts)
    ++ fault_of (files_in found.texts.context found.files) ++ class_fault_of found.texts (descriptor_in found.texts)

abbrev pub total_bytes : List File → ℕ
total_bytes files = sum_by (λ file. length file.bytes) files

abbrev pub counts_of : Deployed → ContextCounts
counts_of made = record {
  servlets = length made.descriptor.servlets;
  filters = length made.descriptor.filters;
  listeners = length made.descriptor.listeners;
  constraints = length made.descriptor.constraints;
  users = length made.users;
  files = length made.files;
  bytes = total_bytes made.files;
}

-- what a context has, unless it has a fault
abbrev pub counts_in : Step Deployed → Option ContextCounts
counts_in (Ok made) = Some (counts_of made)
counts_in (Err fault) = None

abbrev pub checked_context : FoundContext → CheckedContext
checked_context found = record { path = found.texts.context.path; counts = counts_in (deployment_of found) }

abbrev pub checked_server : List FoundContext → CheckedServer
checked_server found = record { faults = flat_map context_faults found; contexts = map checked_context found }

-- ---- the files and folders that the store gives

-- the contexts of a server file with this text, if it could be read
abbrev pub checked_for : List ℕ → FileText → List FoundContext → Step CheckedServer
checked_for config file found = do
  server ← server_in config file
  Ok (checked_server found)

abbrev pub IsCheckedServer : {S : Type 0} → Giving S → FolderGiving S → List ℕ → Step CheckedServer → S → S → Type 0
IsCheckedServer gives_text gives_files config checked before after =
    (file : FileText) × (found : List FoundContext)
    × AreGiven gives_text gives_files config file found before after
    × (checked ≡ checked_for config file found)

-- the result is the checked contexts, or the fault of the server file, unless memory ran out
abbrev pub FindsChecked : {S : Type 0} → Giving S → FolderGiving S → List ℕ → Result CheckedServer CommandFault → S → S → Type 0
FindsChecked gives_text gives_files config result before after =
    UnlessNoMemory result ((checked : Step CheckedServer)
    × IsCheckedServer gives_text gives_files config checked before after
    × Gives command_fault result checked)

-- ---- laws

-- contexts that can be deployed have no fault, and what they have is counted; otherwise the first fault is the one with
-- which the deployment ends
abbrev pub FindsFirstFault : Type 0
FindsFirstFault = (found : List FoundContext) → MatchResult (each deployment_of found)
    (λ made. ((checked_server found).faults ≡ []) × (map (λ context. context.counts) (checked_server found).contexts ≡ map (λ one. Some (counts_of one)) made))
    (λ fault. (rest : List CommandFault) × ((checked_server found).faults ≡ fault ∷ rest))
