-- The steps of the check of a context.
use Rattle.std.specs.Prelude.{◌≡◌, ℕ, Bool, false, List, [], ◌∷◌, ◌++◌, length, true, Option, Some, None, Ok, Err}
use Rattle.sv_text.specs.Steps.{◌>>=◌}
use Rattle.sv_descriptor.specs.declared.server.ContextEntry.{ContextEntry}
use Rattle.sv_descriptor.specs.declared.web_app.WebApp.{WebApp}
use Rattle.sv_program.specs.CommandFault.{command_fault}
use Rattle.sv_program.specs.Configuration.{Step, descriptor_in, users_in}
use Rattle.sv_program.specs.declared.command_fault.CommandFault.{CommandFault}
use Rattle.sv_program.specs.declared.configuration.ContextTexts.{ContextTexts}
use Rattle.sv_deployments.specs.Check.{class_fault_of, counts_in, fault_of, total_bytes}
use Rattle.sv_deployments.specs.Deployments.{components_in, deployment_for}
use Rattle.sv_deployments.specs.Files.{files_in}
use Rattle.sv_deployments.specs.Folders.{FolderFiles}
use Rattle.sv_deployments.specs.declared.check.AppCounts.{AppCounts}
use Rattle.sv_deployments.specs.declared.check.CheckedApp.{CheckedApp}
use Rattle.sv_deployments.specs.declared.check.ContextCounts.{ContextCounts}
use Rattle.sv_deployments.specs.declared.check.FileCounts.{FileCounts}

abbrev pub faults_for : ContextTexts → FolderFiles → List CommandFault
faults_for texts files =
    fault_of (descriptor_in texts) ++ fault_of (users_in texts) ++ fault_of (files_in texts.context files) ++ class_fault_of texts (descriptor_in texts)

abbrev pub counts_for : ContextTexts → FolderFiles → Option ContextCounts
counts_for texts files = counts_in (deployment_for texts files)

-- the value of a step is kept, or its fault is added to those before it
abbrev pub IsTaken : {A : Type 0} → Step A → Option A → List CommandFault → List CommandFault → Type 0
IsTaken (Ok value) taken before after = (taken ≡ Some value) × (after ≡ before)
IsTaken (Err fault) taken before after = (taken ≡ None) × (after ≡ before ++ fault ∷ [])

-- the fault is added to those before it, unless memory ran out
abbrev pub IsAdded : Option CommandFault → List CommandFault → List CommandFault → Type 0
IsAdded (Some fault) before after = after ≡ before ++ fault ∷ []
IsAdded None before after = ⊥

-- memory ran out, or the fault is another
abbrev pub IsNoMemory : CommandFault → Bool → Type 0
IsNoMemory fault true = command_fault fault ≡ None
IsNoMemory fault false = command_fault fault ≡ Some fault

abbrev pub app_counts : WebApp → AppCounts
app_counts app = record {
  servlets = length app.servlets;
  filters = length app.filters;
  listeners = length app.listeners;
  constraints = length app.constraints;
}

-- the components are created and dropped
abbrev pub classes_in : ContextTexts → WebApp → Step (Unit {0})
classes_in texts app = components_in texts app >>= λ made. Ok tt

abbrev pub checked_app : ContextTexts → Step CheckedApp
checked_app texts = descriptor_in texts >>= λ app. Ok (record { counts = app_counts app; classes = classes_in texts app })

-- the counts are kept if the classes are known; otherwise the fault of the classes is added to those before it
abbrev pub AreTakenBy : Step (Unit {0}) → AppCounts → Option AppCounts → List CommandFault → List CommandFault → Type 0
AreTakenBy (Ok done) own counts before after = (counts ≡ Some own) × (after ≡ before)
AreTakenBy (Err fault) own counts before after = (counts ≡ None) × (after ≡ before ++ fault ∷ [])

-- the same for a descriptor that may have had a fault itself
abbrev pub AreTaken : Option CheckedApp → Option AppCounts → List CommandFault → List CommandFault → Type 0
AreTaken None counts before after = (counts ≡ None) × (after ≡ before)
AreTaken (Some app) counts before after = AreTakenBy app.classes app.counts counts before after

abbrev pub user_count : ContextTexts → Step ℕ
user_count texts = users_in texts >>= λ users. Ok (length users)

abbrev pub file_counts : ContextEntry → FolderFiles → Step FileCounts
file_counts context files = files_in context files >>= λ read. Ok (record { files = length read; bytes = total_bytes read })

-- all parts, if none is missing
abbrev pub joined : Option AppCounts → Option ℕ → Option FileCounts → Option ContextCounts
joined (Some app) (Some user_number) (Some read) = Some (record {
  servlets = app.servlets;
  filters = app.filters;
  listeners = app.listeners;
  constraints = app.constraints;
  users = user_number;
  files = read.files;
  bytes = read.bytes;
})
joined (Some app) (Some user_number) None = None
joined (Some app) None files = None
joined None users files = None
