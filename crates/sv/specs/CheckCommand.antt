-- The run of the command `check`, from the files and folders that a store gives.
use Rattle.std.specs.Prelude.{◌≡◌, ℕ, ◌<◌, nat_eq, List, [], ◌∷◌, ◌++◌, codes, length, map, flat_map, slice_get, if◌then◌else◌, Option, Some, None, Result, Ok, Err}
use Rattle.std.specs.Fmt.{decimal}
use Rattle.std.specs.Io.KnownBytes.{Appends}
use Rattle.sv_uri.specs.ContextPath.{shown_context}
use Rattle.sv_journal.specs.declared.start_code.NewCode.TheVariants.{TooManyContexts}
use Rattle.sv_program.specs.CommandFault.{UnlessNoMemory, fault_line}
use Rattle.sv_program.specs.Configuration.{Step}
use Rattle.sv_program.specs.Detail.{detail_text}
use Rattle.sv_program.specs.FaultDetail.{IsFaultDetail}
use Rattle.sv_program.specs.FileStore.{Giving}
use Rattle.sv_program.specs.declared.command_fault.CommandFault.{CommandFault}
use Rattle.sv_program.specs.declared.command_fault.CommandFault.TheVariants as fault
use Rattle.sv_program.specs.declared.detail.Detail.{Detail}
use Rattle.sv_deployments.specs.Check.{IsCheckedServer}
use Rattle.sv_deployments.specs.Folders.{FolderGiving}
use Rattle.sv_deployments.specs.declared.check.CheckedContext.{CheckedContext}
use Rattle.sv_deployments.specs.declared.check.CheckedServer.{CheckedServer}
use Rattle.sv_deployments.specs.declared.check.ContextCounts.{ContextCounts}
use Rattle.sv_container.specs.Paths.{ArePermitted, Forbids}
use Rattle.sv_container.specs.declared.container.TheConstants.{MAX_CONTEXTS}
use Rattle.sv.specs.declared.check_command.CheckReport.{CheckReport}
use Rattle.sv.specs.declared.check_command.TheConstants.{CONSTRAINT}

-- ---- the faults

-- a container refuses a context beyond the last one that it may have
abbrev pub refused_context : Option CheckedContext → List CommandFault
refused_context None = []
refused_context (Some context) = fault.Start TooManyContexts context.path ∷ []

abbrev pub refused : List CheckedContext → List CommandFault
refused contexts = refused_context (slice_get contexts MAX_CONTEXTS)

-- all faults, in the order in which a start would meet them
abbrev pub all_faults : CheckedServer → List CommandFault
all_faults server = server.faults ++ refused server.contexts

-- the second line of a fault, if it has one
abbrev pub second_line : Option Detail → List ℕ
second_line None = []
second_line (Some detail) = detail_text detail ++ codes "\n"

-- the lines of a fault, as they are on standard error where it ends a command
abbrev pub AreLinesOf : CommandFault → List ℕ → Type 0
AreLinesOf found text =
    (detail : Option Detail) × IsFaultDetail found detail × (text ≡ fault_line found ++ codes "\n" ++ second_line detail)

-- the lines of all faults in order
abbrev pub AreLines : List CommandFault → List ℕ → Type 0
AreLines [] text = text ≡ []
AreLines (found ∷ rest) text = (own others : List ℕ) × AreLinesOf found own × AreLines rest others × (text ≡ own ++ others)

-- ---- the counts

-- a number and a noun, which has an `s` unless the number is one
abbrev pub counted : ℕ → List ℕ → List ℕ
counted number noun = decimal number ++ codes " " ++ noun ++ (if nat_eq number 1 then [] else codes "s")

abbrev pub components_text : ContextCounts → List ℕ
components_text counts =
    counted counts.servlets (codes "servlet") ++ codes ", " ++ counted counts.filters (codes "filter")
    ++ codes ", " ++ counted counts.listeners (codes "listener")

abbrev pub rules_text : ContextCounts → List ℕ
rules_text counts = counted counts.constraints CONSTRAINT.now ++ codes ", " ++ counted counts.users (codes "user")

abbrev pub files_text : ContextCounts → List ℕ
files_text counts = counted counts.files (codes "file") ++ codes " of " ++ counted counts.bytes (codes "byte")

abbrev pub counts_text : ContextCounts → List ℕ
counts_text counts = components_text counts ++ codes ", " ++ rules_text counts ++ codes ", " ++ files_text counts

-- the line of a context that has no fault
abbrev pub line_of : List ℕ → Option ContextCounts → List ℕ
line_of path None = []
line_of path (Some counts) = shown_context path ++ codes ": " ++ counts_text counts ++ codes "\n"

abbrev pub context_line : CheckedContext → List ℕ
context_line context = line_of context.path context.counts

-- a line for each context, or one that says that there is none
abbrev pub context_lines : List CheckedContext → List ℕ
context_lines [] = codes "no contexts\n"
context_lines (first ∷ rest) = flat_map context_line (first ∷ rest)

-- ---- the report

-- the text for these faults of a server; without a fault it is `ok` and the lines of the contexts
abbrev pub IsText : List CommandFault → List CheckedContext → List ℕ → Type 0
IsText [] contexts text = text ≡ codes "ok\n" ++ context_lines contexts
IsText (found ∷ rest) contexts text = AreLines (found ∷ rest) text

abbrev pub IsReport : CheckedServer → CheckReport → Type 0
IsReport server report = IsText (all_faults server) server.contexts report.text × (report.faults ≡ length (all_faults server))

-- a run that succeeds has written a report without a fault; a run that ends with faults has written them, and there are
-- this number of them; if the output fails, a part may be written; there is no other end
abbrev pub IsWritten : CheckReport → Result (Unit {0}) CommandFault → Option (List ℕ) → Option (List ℕ) → Type 0
IsWritten report (Ok done) old new = Appends old new report.text × (report.faults ≡ 0)
IsWritten report (Err (fault.Faults count)) old new = Appends old new report.text × (report.faults ≡ count) × (0 < count)
IsWritten report (Err fault.Output) old new = Unit {0}
IsWritten report (Err found) old new = ⊥

-- a server file with a fault ends the run with that fault; otherwise the report on the contexts is written
abbrev pub EndsBy : Step CheckedServer → Result (Unit {0}) CommandFault → Option (List ℕ) → Option (List ℕ) → Type 0
EndsBy (Ok server) result old new = (report : CheckReport) × IsReport server report × IsWritten report result old new
EndsBy (Err found) result old new = result ≡ Err found

-- the run of the command, unless memory ran out
abbrev pub Checks : {S : Type 0} → Giving S → FolderGiving S → List ℕ → Result (Unit {0}) CommandFault → S → S → Option (List ℕ) → Option (List ℕ) → Type 0
Checks gives_text gives_files config result before after old new =
    UnlessNoMemory result ((checked : Step CheckedServer) × IsCheckedServer gives_text gives_files config checked before after × EndsBy checked result old new)

-- before any fault but these two nothing is written
abbrev pub IsBeforeReport : CommandFault → Type 0
IsBeforeReport fault.Output = ⊥
IsBeforeReport (fault.Faults count) = ⊥
IsBeforeReport other = Unit {0}

-- ---- a law

abbrev pub paths_of : List CheckedContext → List (List ℕ)
paths_of contexts = map (λ context. context.path) contexts

-- contexts that a container may have are not refused; of others whose paths differ, as those of a server file do, the
-- one is refused that the container names
abbrev pub RefusesAsContainer : Type 0
RefusesAsContainer = (contexts : List CheckedContext) → (ArePermitted (paths_of contexts) → refused contexts ≡ [])
    × ((path : List ℕ) → Forbids TooManyContexts (paths_of contexts) path → refused contexts ≡ fault.Start TooManyContexts path ∷ [])
