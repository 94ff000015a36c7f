-- The effects of the commands of the program.
use Rattle.std.specs.Prelude.{◌≡◌, ◌≢◌, ℕ, List, map, string_bytes, Option, Result, Ok, Err}
use Rattle.sv_deployments.specs.declared.program_filter.ProgramFilter.{ProgramFilter}
use Rattle.sv_deployments.specs.declared.program_listener.ProgramListener.{ProgramListener}
use Rattle.sv_deployments.specs.declared.program_servlet.ProgramServlet.{ProgramServlet}
use Rattle.sv_component.specs.Steps.{ComponentSteps}
use Rattle.sv_program.specs.CommandFault.{UnlessNoMemory}
use Rattle.sv_program.specs.FileStore.{Giving}
use Rattle.sv_program.specs.FirstLine.{RunsFirst}
use Rattle.sv_program.specs.Printed.{Prints}
use Rattle.sv_program.specs.UncoveredCommand.{IsReported}
use Rattle.sv_program.specs.declared.command_fault.CommandFault.{CommandFault}
use Rattle.sv_program.specs.declared.command_fault.CommandFault.TheVariants.{Output}
use Rattle.sv_deployments.specs.Configuration.{FindsConfiguration}
use Rattle.sv_deployments.specs.Folders.{FolderGiving}
use Rattle.sv_deployments.specs.declared.configuration.Configuration.{Configuration}
use Rattle.sv_audit_command.specs.AuditCommand.{Audits, IsAudited, IsBeforeOutput}
use Rattle.sv.specs.CheckCommand.{Checks, IsBeforeReport}
use Rattle.sv.specs.Policy.{RunsPolicy}
use Rattle.sv.specs.Printed.{Shows}
use Rattle.sv.specs.Help.{help_text, manual_text}
use Rattle.sv_control_words.specs.ControlRequest.{line_of}
use Rattle.sv_arguments.specs.declared.command.Command.{Command}
use Rattle.sv_arguments.specs.declared.command.Command.TheVariants.{First, Policy, Uncovered, Audit, Check, Replay, Serve, Run, Ctl, SelfTest, Help, Manual, Version}
use Rattle.sv_listening.specs.Controlling.{Answers}
use Rattle.sv.specs.declared.texts.TheConstants.{VERSION}

-- a fault in reading a server's files and folders is the command's fault
abbrev pub EndsByFiles : Result Configuration CommandFault → Result (Unit {0}) CommandFault → Type 0
EndsByFiles (Ok configuration) result = Unit {0}
EndsByFiles (Err fault) result = result ≡ Err fault

abbrev pub ReadsFiles : {S : Type 0} → Giving S → FolderGiving S → List ℕ → Result (Unit {0}) CommandFault → S → S → Type 0
ReadsFiles gives_text gives_files config result before after =
    (found : Result Configuration CommandFault) × FindsConfiguration gives_text gives_files config found before after × EndsByFiles found result

-- the command sends no event to a container
abbrev pub ServesNothing : Command → Type 0
ServesNothing (Replay config) = ⊥
ServesNothing (Serve service) = ⊥
ServesNothing (Run options) = ⊥
ServesNothing (SelfTest config) = ⊥
ServesNothing other = Unit {0}

-- the command ends with this fault before it writes; `audit` counts findings and `check` counts faults after its report
abbrev pub IsBefore : Command → CommandFault → Type 0
IsBefore (Audit options) fault = IsBeforeOutput fault
IsBefore (Check config) fault = IsBeforeReport fault
IsBefore command fault = fault ≢ Output

module _ (moving : ComponentSteps ProgramServlet ProgramFilter ProgramListener) where
  -- the result of a command and the bytes that it adds to its writer, by the store and the known bytes of its reader;
  -- the contracts of `replay`, `serve`, `run` and `self_test` say what the events of a container write
  abbrev pub RunsCommand : {S : Type 0} → Giving S → FolderGiving S → Command → Result (Unit {0}) CommandFault → S → S → Option (List ℕ) → Option (List ℕ) → Option (List ℕ) → Type 0
  RunsCommand gives files (First deny_uncovered) result before after stream old new = (after ≡ before) × RunsFirst deny_uncovered result stream old new
  RunsCommand gives files (Policy question) result before after stream old new = RunsPolicy moving gives files question result before after old new
  RunsCommand gives files (Uncovered config) result before after stream old new = Prints (IsReported gives config.now) result before after old new
  RunsCommand gives files (Audit options) result before after stream old new =
      Audits (IsAudited gives files options.access options.config.now) result before after old new
  RunsCommand gives files (Check config) result before after stream old new = Checks gives files config.now result before after old new
  RunsCommand gives files (Replay config) result before after stream old new = ReadsFiles gives files config.now result before after
  RunsCommand gives files (Serve service) result before after stream old new = ReadsFiles gives files service.config.now result before after
  RunsCommand gives files (Run options) result before after stream old new = ReadsFiles gives files options.config.now result before after
  RunsCommand gives files (Ctl request) result before after stream old new =
      (after ≡ before) × Answers request.socket.now (line_of (map string_bytes request.words.now)) result old new
  RunsCommand gives files (SelfTest config) result before after stream old new = ReadsFiles gives files config.now result before after
  RunsCommand gives files (Help topic) result before after stream old new = (after ≡ before) × UnlessNoMemory result (Shows (help_text topic) result old new)
  RunsCommand gives files (Manual manual) result before after stream old new = (after ≡ before) × UnlessNoMemory result (Shows (manual_text manual) result old new)
  RunsCommand gives files Version result before after stream old new = (after ≡ before) × Shows VERSION.now result old new
