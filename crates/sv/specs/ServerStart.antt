-- Starts a server's container from its configuration files.
use Rattle.std.specs.Prelude.{◌≡◌, ℕ, ◌⊎◌, List, Vec, Result, Ok, Err}
use Rattle.std.proofs.Common.{Global}
use Rattle.sv_component.specs.Steps.{ComponentSteps}
use Rattle.sv_deployments.specs.declared.program_filter.ProgramFilter.{ProgramFilter}
use Rattle.sv_deployments.specs.declared.program_listener.ProgramListener.{ProgramListener}
use Rattle.sv_deployments.specs.declared.program_servlet.ProgramServlet.{ProgramServlet}
use Rattle.sv_deployments.specs.Configuration.{FindsConfiguration}
use Rattle.sv_deployments.specs.Folders.{FolderGiving}
use Rattle.sv_deployments.specs.declared.configuration.Configuration.{Configuration}
use Rattle.sv_lifecycle.specs.declared.deployment.Deployment.{Deployment}
use Rattle.sv_program.specs.FileStore.{Giving}
use Rattle.sv_program.specs.declared.command_fault.CommandFault.{CommandFault}
use Rattle.sv_program.specs.declared.command_fault.CommandFault.TheVariants.{NoMemory}
use Rattle.sv_listening.specs.Seeding.{GivesSeed}
use Rattle.sv_container.specs.declared.container.Container.{Container}
use Rattle.sv_container.specs.SeededStart.{ResumesWith, StartsWith}
use Rattle.sv_container.specs.declared.suspension.Suspension.{Suspension}
use Rattle.sv_lifecycle.specs.declared.suspended_context.SuspendedContext.{SuspendedContext}
use Rattle.sv_listening.specs.declared.seed.Seeding.{Seeding}
use Rattle.sv_run.specs.declared.seeded_words.SeededWords.{SeededWords}
use Rattle.sv.specs.declared.server_start.ResumedServer.{ResumedServer}
use Rattle.sv.specs.declared.server_start.StartedServer.{StartedServer}
use Rattle.sv.specs.declared.session_files.FoundFile.{FoundFile}

module _ (moving : ComponentSteps ProgramServlet ProgramFilter ProgramListener) where
  -- the configured container starts with this seed, or its fault is the result
  abbrev pub Begins : List ℕ → Configuration → Result StartedServer CommandFault → Type 0
  Begins seed configuration (Ok started) =
      StartsWith moving configuration.deployments.items seed (Ok started.container) × (started.port ≡ configuration.port)
  Begins seed configuration (Err fault) = StartsWith moving configuration.deployments.items seed (Err fault)

  -- a fault of the seed is the result; without one, the configured container starts with it
  abbrev pub BeginsBySeed : Result (List ℕ) CommandFault → Configuration → Result StartedServer CommandFault → Type 0
  BeginsBySeed (Ok seed) configuration result = Begins seed configuration result
  BeginsBySeed (Err fault) configuration result = result ≡ Err fault

  -- a fault of the files is the result; without one, the configured container starts with the seed of this seeding
  abbrev pub GoesOn : Seeding → Result Configuration CommandFault → Result StartedServer CommandFault → Type 0
  GoesOn seeding (Ok configuration) result =
      (seed : Result (List ℕ) CommandFault) × GivesSeed seeding configuration.seed seed × BeginsBySeed seed configuration result
  GoesOn seeding (Err fault) result = result ≡ Err fault

  -- a start of the server over its store
  abbrev pub StartsServer : {S : Type 0} → Giving S → FolderGiving S → Seeding → List ℕ → S → Result StartedServer CommandFault → S → Type 0
  StartsServer gives_text gives_files seeding config before result after =
      (found : Result Configuration CommandFault) × FindsConfiguration gives_text gives_files config found before after × GoesOn seeding found result

  -- a container with the deployments and the words of the seed resumes with what was suspended, or its fault is the
  -- result; memory may also run out after the start, and then the container is stopped
  abbrev pub ResumesSome : List (Deployment ProgramServlet ProgramFilter ProgramListener) → List ℕ → Suspension
      → Result (Container ProgramServlet ProgramFilter ProgramListener SeededWords × Vec FoundFile Global) CommandFault → Type 0
  ResumesSome deployments seed suspension (Ok (container, files)) =
      (untaken : Vec SuspendedContext Global) × ResumesWith moving deployments seed suspension (Ok (container, untaken))
  ResumesSome deployments seed suspension (Err fault) =
      (fault ≡ NoMemory) ⊎ ResumesWith moving deployments seed suspension (Err fault)

  -- the configured container resumes with this seed and with some suspended contexts
  abbrev pub Resumes : List ℕ → Configuration → Result ResumedServer CommandFault → Type 0
  Resumes seed configuration (Ok resumed) =
      (suspension : Suspension) × (untaken : Vec SuspendedContext Global)
      × ResumesWith moving configuration.deployments.items seed suspension (Ok (resumed.started.container, untaken))
      × (resumed.started.port ≡ configuration.port)
  Resumes seed configuration (Err fault) = Unit {0}

  abbrev pub ResumesBySeed : Result (List ℕ) CommandFault → Configuration → Result ResumedServer CommandFault → Type 0
  ResumesBySeed (Ok seed) configuration result = Resumes seed configuration result
  ResumesBySeed (Err fault) configuration result = result ≡ Err fault

  abbrev pub ResumesOn : Seeding → Result Configuration CommandFault → Result ResumedServer CommandFault → Type 0
  ResumesOn seeding (Ok configuration) result =
      (seed : Result (List ℕ) CommandFault) × GivesSeed seeding configuration.seed seed × ResumesBySeed seed configuration result
  ResumesOn seeding (Err fault) result = result ≡ Err fault

  -- A start of the server over its store, and over a folder of sessions. No contract says what the folder gives.
  abbrev pub ResumesServer : {S : Type 0} → Giving S → FolderGiving S → Seeding → List ℕ → S → Result ResumedServer CommandFault → S → Type 0
  ResumesServer gives_text gives_files seeding config before result after =
      (found : Result Configuration CommandFault) × FindsConfiguration gives_text gives_files config found before after × ResumesOn seeding found result
