-- The deployments of a server's contexts.
use Rattle.std.specs.Prelude.{ℕ, List, [], map, Ok, Err}
use Rattle.sv_text.specs.Steps.{◌>>=◌}
use Rattle.sv_deployments.specs.Parts.{Components, Made, components, components_of}
use Rattle.sv_deployments.specs.Results.{both}
use Rattle.sv_deployments.specs.declared.program_filter.ProgramFilter.{ProgramFilter}
use Rattle.sv_deployments.specs.declared.program_listener.ProgramListener.{ProgramListener}
use Rattle.sv_deployments.specs.declared.program_servlet.ProgramServlet.{ProgramServlet}
use Rattle.sv_lifecycle.specs.declared.deployment.Deployment as context
use Rattle.sv_descriptor.specs.declared.web_app.WebApp.{WebApp}
use Rattle.sv_files.specs.declared.files.File.{File}
use Rattle.sv_realm.specs.declared.account.User.{User}
use Rattle.sv_program.specs.Configuration.{Step, descriptor_in, users_in}
use Rattle.sv_program.specs.FileStore.{FileText}
use Rattle.sv_program.specs.declared.command_fault.CommandFault.{CommandFault}
use Rattle.sv_program.specs.declared.command_fault.CommandFault.TheVariants as fault
use Rattle.sv_program.specs.declared.configuration.ContextTexts.{ContextTexts}
use Rattle.sv_deployments.specs.ComponentPlace.{steps_to}
use Rattle.sv_deployments.specs.Files.{files_in}
use Rattle.sv_deployments.specs.Folders.{FolderFiles}
use Rattle.sv_deployments.specs.declared.class_fault.TheConstants.{CLASSES}
use Rattle.sv_deployments.specs.declared.class_fault.ClassFault.TheVariants.{UnknownClass, NoMemory}
use Rattle.sv_deployments.specs.declared.component_place.ComponentPlace.{ComponentPlace}
use Rattle.sv_deployments.specs.declared.folders.FoundContext.{FoundContext}

-- the deployment of a context, with its components as lists
pub record Deployed : Type 0 where
  pub path : List ℕ
  pub descriptor : WebApp
  pub files : List File
  pub users : List User
  pub parts : Components

abbrev pub ProgramDeployment : Type 0
ProgramDeployment = context.Deployment ProgramServlet ProgramFilter ProgramListener

abbrev pub deployment : ProgramDeployment → Deployed
deployment given = record {
  path = given.path;
  descriptor = given.descriptor;
  files = given.files;
  users = given.users;
  parts = components given.parts;
}

abbrev pub deployments : List ProgramDeployment → List Deployed
deployments = map deployment

-- the text of a file, empty if it is not available
abbrev pub descriptor_text : FileText → List ℕ
descriptor_text (Ok text) = text
descriptor_text (Err why) = []

-- the fault of a class that the program does not have, for the component at this place of the descriptor
abbrev pub unknown_class : ContextTexts → List ℕ → ComponentPlace → CommandFault
unknown_class texts class place =
    fault.Class class (record { file = texts.context.descriptor; text = descriptor_text texts.descriptor; steps = steps_to place }) CLASSES.now

-- the components, or the fault of a class
abbrev pub known : ContextTexts → Made Components → Step Components
known texts (Ok made) = Ok made
known texts (Err (UnknownClass class place)) = Err (unknown_class texts class place)
known texts (Err NoMemory) = Err fault.NoMemory

-- the components of a context with this descriptor
abbrev pub components_in : ContextTexts → WebApp → Step Components
components_in texts app = known texts (components_of app)

-- the descriptor, users and files of a context, or the first fault among them
abbrev pub read_of : ContextTexts → FolderFiles → Step ((WebApp × List User) × List File)
read_of texts found = both (both (descriptor_in texts) (users_in texts)) (files_in texts.context found)

-- the deployment of a context with these texts and files; faults are found in the order descriptor, users, files and
-- classes
abbrev pub deployment_for : ContextTexts → FolderFiles → Step Deployed
deployment_for texts found = do
  its_descriptor ← descriptor_in texts
  its_users ← users_in texts
  its_files ← files_in texts.context found
  its_parts ← components_in texts its_descriptor
  Ok (record { path = texts.context.path; descriptor = its_descriptor; files = its_files; users = its_users; parts = its_parts })

abbrev pub deployment_of : FoundContext → Step Deployed
deployment_of found = deployment_for found.texts found.files
