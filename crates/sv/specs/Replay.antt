-- The command `replay`: runs a script over a server's container.
use Rattle.std.specs.Prelude.{◌≡◌, ℕ, List, Result, Ok, Err}
use Rattle.sv_deployments.specs.declared.program_filter.ProgramFilter.{ProgramFilter}
use Rattle.sv_deployments.specs.declared.program_listener.ProgramListener.{ProgramListener}
use Rattle.sv_deployments.specs.declared.program_servlet.ProgramServlet.{ProgramServlet}
use Rattle.sv_component.specs.Steps.{ComponentSteps}
use Rattle.sv_deployments.specs.Configuration.{FindsConfiguration}
use Rattle.sv_deployments.specs.Folders.{FolderGiving}
use Rattle.sv_deployments.specs.declared.configuration.Configuration.{Configuration}
use Rattle.sv_program.specs.FileStore.{Giving}
use Rattle.sv_program.specs.declared.command_fault.CommandFault.{CommandFault}
use Rattle.sv_container.specs.Script.{RunsScript}
use Rattle.sv_run.specs.declared.run_fault.RunFault.{RunFault}
use Rattle.sv_listening.specs.RunFault.{fault_of_run}
use Rattle.sv_streams.specs.Calls.{Making}

abbrev pub ended : Result (Unit {0}) RunFault → Result (Unit {0}) CommandFault
ended (Ok done) = Ok done
ended (Err found) = Err (fault_of_run found)

module _ {I O : Type 0} (moving : ComponentSteps ProgramServlet ProgramFilter ProgramListener) (gives : Making I) (takes : Making O) where
  -- a fault of the files is the result, and nothing is read or written; without one, the configured container runs the
  -- script
  abbrev pub GoesOn : Result Configuration CommandFault → I → O → Result (Unit {0}) CommandFault → I → O → Type 0
  GoesOn (Ok configuration) script output result script_after output_after =
      (ending : Result (Unit {0}) RunFault)
      × RunsScript moving gives takes configuration.deployments.items script output ending script_after output_after
      × (result ≡ ended ending)
  GoesOn (Err found) script output result script_after output_after = (result ≡ Err found) × (script_after ≡ script) × (output_after ≡ output)

  -- a run of the command over its store
  abbrev pub RunsReplay : {S : Type 0} → Giving S → FolderGiving S → List ℕ → S → I → O → Result (Unit {0}) CommandFault → S → I → O → Type 0
  RunsReplay gives_text gives_files config before script output result after script_after output_after =
      (found : Result Configuration CommandFault) × FindsConfiguration gives_text gives_files config found before after
      × GoesOn found script output result script_after output_after
