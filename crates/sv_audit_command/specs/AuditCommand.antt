-- The run of the command `audit`, from the files that a store gives.
use Rattle.std.specs.Prelude.{◌≡◌, ℕ, ◌<◌, List, [], map, Option, Result, Ok, Err}
use Rattle.std.specs.Io.KnownBytes.{Appends}
use Rattle.sv_text.specs.Gives.{Gives}
use Rattle.sv_text.specs.Steps.{◌>>=◌}
use Rattle.sv_deployments.specs.Configuration.{AreGiven}
use Rattle.sv_deployments.specs.Folders.{FolderGiving}
use Rattle.sv_deployments.specs.declared.folders.FoundContext.{FoundContext}
use Rattle.sv_program.specs.CommandFault.{UnlessNoMemory, command_fault}
use Rattle.sv_program.specs.Configuration.{Step, server_in}
use Rattle.sv_program.specs.FileStore.{AreRead, FileText, Giving, Reading}
use Rattle.sv_program.specs.declared.command_fault.CommandFault.{CommandFault}
use Rattle.sv_program.specs.declared.command_fault.CommandFault.TheVariants as fault
use Rattle.sv_descriptor.specs.declared.server.Server.{Server}
use Rattle.sv_audit_command.specs.Report.{further_readings, other_contexts, other_name, report_on}
use Rattle.sv_audit_command.specs.declared.further_files.FurtherFiles.{FurtherFiles}
use Rattle.sv_audit_command.specs.declared.access_options.AccessOptions.{AccessOptions}
use Rattle.sv_audit_command.specs.declared.audit_report.Report.{Report}

-- The report, or the fault, that follows from the readings between two states of a store.
abbrev pub Auditing : Type 0 → Type 1
Auditing S = Step Report → S → S → Type 0

-- The report on a server file with this text, if it is available, on the contexts found, and from these
-- further files.
abbrev pub report_for : AccessOptions → List ℕ → FileText → List FoundContext → FurtherFiles → Step Report
report_for options config file found files = do
  server ← server_in config file
  report_on options found files

-- The files that the options name are read after those of the contexts, unless the server file has a fault.
abbrev pub readings_after : Step Server → List Reading → List Reading
readings_after (Ok server) further = further
readings_after (Err found) further = []

-- The report is the one on the server file, on the files and folders of its contexts, and from the further files, which
-- the store gives in this order. Nothing else is read.
abbrev pub IsAudited : {S : Type 0} → Giving S → FolderGiving S → AccessOptions → List ℕ → Auditing S
IsAudited {S} gives_text gives_files options config report before after =
    (file : FileText) × (found : List FoundContext) × (files : FurtherFiles) × (between : S)
    × AreGiven gives_text gives_files config file found before between
    × AreRead gives_text between (readings_after (server_in config file) (further_readings options files)) after
    × (map (λ text. text.context) files.other.contexts ≡ other_contexts (other_name options) files.other.server)
    × (report ≡ report_for options config file found files)

-- The result is the report or its fault, unless memory ran out.
abbrev pub FindsReport : {S : Type 0} → Auditing S → Step Report → S → S → Type 0
FindsReport Is result before after =
    UnlessNoMemory result ((report : Step Report) × Is report before after × Gives command_fault result report)

-- A run that succeeds has written the report, which has no finding that must not be there. A run that ends with findings
-- has written it too, and it has this number of them. If the output fails, a part may be written. There is no other end.
abbrev pub IsWritten : Report → Result (Unit {0}) CommandFault → Option (List ℕ) → Option (List ℕ) → Type 0
IsWritten report (Ok done) old new = Appends old new report.text × (report.count ≡ 0)
IsWritten report (Err (fault.Findings count)) old new = Appends old new report.text × (report.count ≡ count) × (0 < count)
IsWritten report (Err fault.Output) old new = Unit {0}
IsWritten report (Err found) old new = ⊥

-- The run of a report that is known: it is written. If its files have a fault, the run ends with that fault, which is
-- none of a standard stream and none of findings.
abbrev pub EndsWith : CommandFault → Result (Unit {0}) CommandFault → Type 0
EndsWith found (Ok done) = ⊥
EndsWith found (Err fault.Input) = ⊥
EndsWith found (Err fault.Output) = ⊥
EndsWith found (Err (fault.Findings count)) = ⊥
EndsWith found (Err other) = other ≡ found

abbrev pub EndsBy : Step Report → Result (Unit {0}) CommandFault → Option (List ℕ) → Option (List ℕ) → Type 0
EndsBy (Ok report) result old new = IsWritten report result old new
EndsBy (Err found) result old new = EndsWith found result

-- The command's run, unless memory ran out.
abbrev pub Audits : {S : Type 0} → Auditing S → Result (Unit {0}) CommandFault → S → S → Option (List ℕ) → Option (List ℕ) → Type 0
Audits Is result before after old new =
    UnlessNoMemory result ((report : Step Report) × Is report before after × EndsBy report result old new)

-- Before any fault but these two nothing is written.
abbrev pub IsBeforeOutput : CommandFault → Type 0
IsBeforeOutput fault.Output = ⊥
IsBeforeOutput (fault.Findings count) = ⊥
IsBeforeOutput other = Unit {0}
