-- The configuration in a server file, from the files and folders that a store gives.
use Rattle.std.specs.Prelude.{◌≡◌, ℕ, List, map, flat_map, Result, Ok}
use Rattle.sv_text.specs.Gives.{Gives}
use Rattle.sv_text.specs.Steps.{◌>>=◌}
use Rattle.sv_deployments.specs.Parts.{seen}
use Rattle.sv_program.specs.CommandFault.{command_fault, UnlessNoMemory}
use Rattle.sv_program.specs.Configuration.{Step, each, server_in}
use Rattle.sv_program.specs.ConfigurationFiles.{contexts_in, readings}
use Rattle.sv_program.specs.FileStore.{AreRead, FileText, Giving}
use Rattle.sv_program.specs.declared.command_fault.CommandFault.{CommandFault}
use Rattle.sv_deployments.specs.Deployments.{Deployed, deployment, deployment_of}
use Rattle.sv_deployments.specs.Folders.{AreFound, FolderGiving, context_readings}
use Rattle.sv_deployments.specs.declared.configuration.Configuration as declared
use Rattle.sv_deployments.specs.declared.folders.FoundContext.{FoundContext}

-- the port, the seed, and the deployment of each context
pub record Configured : Type 0 where
  pub port : ℕ
  pub seed : List ℕ
  pub deployments : List Deployed

abbrev pub configured : declared.Configuration → Configured
configured given = record { port = given.port; seed = given.seed; deployments = map deployment given.deployments.items }

-- the configuration of a server file with this text, if it could be read, and of contexts with these files
abbrev pub configuration_for : List ℕ → FileText → List FoundContext → Step Configured
configuration_for config file found = do
  server ← server_in config file
  its_deployments ← each deployment_of found
  Ok (record { port = server.port; seed = server.seed; deployments = its_deployments })

-- the store gave the server file, then the texts of its contexts' files, then the files of their folders; a server file
-- with a fault has no contexts
abbrev pub AreGiven : {S : Type 0} → Giving S → FolderGiving S → List ℕ → FileText → List FoundContext → S → S → Type 0
AreGiven {S} gives_text gives_files config file found before after =
    (between : S)
    × (map (λ context. context.texts.context) found ≡ contexts_in (server_in config file))
    × AreRead gives_text before (readings config file (map (λ context. context.texts) found)) between
    × AreFound gives_files between (flat_map (context_readings config) found) after

-- the configuration, from the files and folders that the store gives
abbrev pub IsConfiguration : {S : Type 0} → Giving S → FolderGiving S → List ℕ → Step Configured → S → S → Type 0
IsConfiguration gives_text gives_files config configuration before after =
    (file : FileText) × (found : List FoundContext)
    × AreGiven gives_text gives_files config file found before after
    × (configuration ≡ configuration_for config file found)

-- the result is the configuration or its fault, unless memory ran out
abbrev pub FindsConfiguration : {S : Type 0} → Giving S → FolderGiving S → List ℕ → Result declared.Configuration CommandFault → S → S → Type 0
FindsConfiguration gives_text gives_files config result before after =
    UnlessNoMemory result ((configuration : Step Configured)
    × IsConfiguration gives_text gives_files config configuration before after
    × Gives command_fault (seen configured result) configuration)
