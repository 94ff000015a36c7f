-- The beginning of the commands that listen.
use Rattle.std.specs.Prelude.{◌≡◌, ℕ, List, Option, Some, None, Result, Ok, Err}
use denote.Ref.{Bor}
use Rattle.sv_component.specs.Steps.{ComponentSteps}
use Rattle.sv_deployments.specs.declared.program_filter.ProgramFilter.{ProgramFilter}
use Rattle.sv_deployments.specs.declared.program_listener.ProgramListener.{ProgramListener}
use Rattle.sv_deployments.specs.declared.program_servlet.ProgramServlet.{ProgramServlet}
use Rattle.sv_deployments.specs.Folders.{FolderGiving}
use Rattle.sv_arguments.specs.declared.run_options.RunOptions.{RunOptions}
use Rattle.sv_program.specs.FileStore.{Giving}
use Rattle.sv_program.specs.declared.command_fault.CommandFault.{CommandFault}
use Rattle.sv_listening.specs.declared.seed.Seeding.{Seeding}
use Rattle.sv.specs.ServerStart.{ResumesServer, StartsServer}
use Rattle.sv.specs.Site.{seeding_by}
use Rattle.sv.specs.declared.server_start.ResumedServer.{ResumedServer}
use Rattle.sv.specs.declared.server_start.StartedServer.{StartedServer}

-- if the server did not start, its fault is the command's, and nothing was written
abbrev pub UnlessStarted : {A W : Type 0} → Result A CommandFault → Result (Unit {0}) CommandFault → W → W → Type 0
UnlessStarted (Ok started) result writer writer_after = Unit {0}
UnlessStarted (Err fault) result writer writer_after = (result ≡ Err fault) × (writer_after ≡ writer)

module _ (moving : ComponentSteps ProgramServlet ProgramFilter ProgramListener) where
  -- a command begins with the start of the server, with the random words of this seeding
  abbrev pub BeginsWith : {S W : Type 0} → Giving S → FolderGiving S → Seeding → List ℕ → S → W → Result (Unit {0}) CommandFault → S → W → Type 0
  BeginsWith gives_text gives_files seeding config before writer result after writer_after =
      (begun : Result StartedServer CommandFault) × StartsServer moving gives_text gives_files seeding config before begun after
      × UnlessStarted begun result writer writer_after

  -- a command begins with the start of the server that resumes with the sessions in a folder
  abbrev pub BeginsResumed : {S W : Type 0} → Giving S → FolderGiving S → Seeding → List ℕ → S → W → Result (Unit {0}) CommandFault → S → W → Type 0
  BeginsResumed gives_text gives_files seeding config before writer result after writer_after =
      (begun : Result ResumedServer CommandFault) × ResumesServer moving gives_text gives_files seeding config before begun after
      × UnlessStarted begun result writer writer_after

  -- a run begins with the start of the server; if a folder of sessions is named, it resumes with them
  abbrev pub BeginsIn : {S W : Type 0} → Option (Bor (List ℕ)) → Giving S → FolderGiving S → Seeding → List ℕ → S → W → Result (Unit {0}) CommandFault → S → W → Type 0
  BeginsIn None gives_text gives_files seeding config before writer result after writer_after =
      BeginsWith gives_text gives_files seeding config before writer result after writer_after
  BeginsIn (Some name) gives_text gives_files seeding config before writer result after writer_after =
      BeginsResumed gives_text gives_files seeding config before writer result after writer_after

  abbrev pub BeginsBySessions : {S W : Type 0} → Giving S → FolderGiving S → RunOptions → S → W → Result (Unit {0}) CommandFault → S → W → Type 0
  BeginsBySessions gives_text gives_files options before writer result after writer_after =
      BeginsIn options.sessions gives_text gives_files (seeding_by options.same_seed) options.config.now before writer result after writer_after
