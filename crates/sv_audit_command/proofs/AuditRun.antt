-- The run of the command `audit`, from the files that a store gives.
use Rattle.std.proofs.Common.{◌≡◌, ℕ, List, [], ◌∷◌, ◌++◌, refl, subst, sym, Option, Some, None, MatchOption, Result, Ok, Err, IsErrAnd}
use Rattle.std.specs.Prelude.{IfErr, option_copied}
use Rattle.sv_deployments.proofs.Finding.{are_given}
use Rattle.sv_deployments.specs.Folders.{FolderGiving, ReadsFolders}
use Rattle.sv_deployments.specs.declared.folders.FoundContext.{FoundContext}
use Rattle.sv_descriptor.specs.declared.server.Server.{Server}
use Rattle.sv_program.specs.CommandFault.{UnlessNoMemory, command_fault}
use Rattle.sv_program.specs.Configuration.{Step, server_in}
use Rattle.sv_program.specs.ConfigurationFiles.{ReadsContexts, ReadsServer}
use Rattle.sv_program.specs.FileStore.{AreRead, FileText, Giving, Reading}
use Rattle.sv_program.specs.declared.command_fault.CommandFault.{CommandFault}
use Rattle.sv_program.specs.declared.command_fault.CommandFault.TheVariants.{Input, Output, File, Folder, Server as ServerFault, Descriptor, Users, Class, Files, Start, Socket, Script, User, Role, Method, Refused, NoMemory, Findings, Faults}
use Rattle.sv_program.specs.declared.configuration.ContextTexts.{ContextTexts}
use Rattle.sv_program.specs.declared.unavailable.Unavailable.TheVariants.{Missing}
use Rattle.sv_text.specs.Gives.{Gives}
use Rattle.sv_audit_command.specs.AuditCommand.{Audits, EndsBy, FindsReport, IsAudited, IsBeforeOutput, IsWritten}
use Rattle.sv_audit_command.specs.Report.{ReadsFurther, asked_readings, further_readings, other_contexts, other_name, other_readings, report_on}
use Rattle.sv_audit_command.specs.declared.further_files.FurtherFiles.{FurtherFiles}
use Rattle.sv_audit_command.specs.declared.access_options.AccessOptions.{AccessOptions}
use Rattle.sv_audit_command.specs.declared.audit_report.Report.{Report}
use Rattle.sv_audit_command.proofs.FilesFaults.{AreOfFiles, all_faults}

-- Readings in sequence.
pub read_behind : {S : Type 0} (gives : Giving S) (front back : List Reading) (a b c : S)
    → AreRead gives a front b → AreRead gives b back c → AreRead gives a (front ++ back) c
read_behind gives [] back a b c first second = let P : _ → Type 0 = λ s. AreRead gives s back c in subst P first second
read_behind gives (reading ∷ rest) back a b c first second = (first.0, first.1, read_behind gives rest back first.0 b c first.2 second)

unless : {A : Type 0} (result : Result A CommandFault) (fact : Type 0) → fact → UnlessNoMemory result fact
unless (Ok a) fact is = is
unless (Err e) fact is = by (command_fault e)
  where
    by : (found : Option CommandFault) → MatchOption found (Unit {0}) (λ _. fact)
    by None = tt
    by (Some f) = is

abbrev no_files : FurtherFiles
no_files = record { accept = Err Missing; lines = Err Missing; other = record { server = Err Missing; contexts = [] } }

no_others : (name : Option (List ℕ)) → other_contexts name (Err Missing) ≡ []
no_others None = refl
no_others (Some name) = refl

module _ {S : Type 0} (gives : Giving S) (walks : FolderGiving S) (options : AccessOptions) (config : List ℕ) where
  -- A fault of the server file ends the run before anything else is read.
  pub without_server : (fault : CommandFault) (result : Step Report) (before after : S)
      → ReadsServer gives config before (Err fault) after → IsErrAnd result (λ e. e ≡ fault)
      → FindsReport (IsAudited gives walks options config) result before after
  without_server fault (Ok report) before after read same = absurd same
  without_server fault (Err e) before after read same = rw same (at (command_fault fault) read)
    where
      at : (found : Option CommandFault)
          → MatchOption found (Unit {0}) (λ _. (file : FileText) × gives before config file after × MatchOption found (Unit {0}) (λ f. server_in config file ≡ Err f))
          → MatchOption found (Unit {0}) (λ _. (report : Step Report) × IsAudited gives walks options config report before after × MatchOption found (Unit {0}) (λ f. report ≡ Err f))
      at None h = tt
      at (Some f) h =
          let failed : server_in config h.0 ≡ Err f = h.2 in (
            Err f,
            (h.0, [], no_files, after, (after, rw failed refl, (after, h.1, refl), refl), rw failed refl, sym (no_others (other_name options)), rw failed refl),
            refl,
          )

  further_read : (files : FurtherFiles) (before after : S) → ReadsFurther gives options before files after → AreRead gives before (further_readings options files) after
  further_read files before after read =
      let accept = asked_readings (option_copied options.accept) files.accept in
      let lines = asked_readings (option_copied options.lines) files.lines in
      read_behind gives (accept ++ lines) (other_readings (other_name options) files.other) before read.1 after
      (read_behind gives accept lines before read.0 read.1 read.3 read.4) read.2.1

  -- The report follows from the files and folders that were read.
  pub with_report : (server : Server) (texts : List ContextTexts) (found slice : List FoundContext) (files : FurtherFiles) (result : Step Report) (a b c d e : S)
      → ReadsServer gives config a (Ok server) b → ReadsContexts gives config server.contexts b texts c
      → ReadsFolders walks config texts c found d → ReadsFurther gives options d files e
      → slice ≡ found → Gives command_fault result (report_on options slice files)
      → FindsReport (IsAudited gives walks options config) result a e
  with_report server texts found slice files result a b c d e read contexts folders further same reported =
      let given : server_in config read.0 ≡ Ok server = read.2 in
      unless result ((report : Step Report) × IsAudited gives walks options config report a e × Gives command_fault result report) (
        report_on options found files,
        (
          read.0,
          found,
          files,
          d,
          are_given gives walks config read.0 server texts found a b c d read.1 given contexts folders,
          rw given (further_read files d e further),
          further.2.0,
          rw given refl,
        ),
        rw same at reported,
      )

  are_of_files : (report : Step Report) (before after : S) → IsAudited gives walks options config report before after → AreOfFiles report
  are_of_files report before after is = rw is.7 (all_faults options config is.0 is.1 is.2)

-- A fault of the files ends the run.
ends : (fault : CommandFault) (report : Step Report) (old new : Option (List ℕ)) → AreOfFiles report → MatchOption (command_fault fault) (Unit {0}) (λ f. report ≡ Err f)
    → MatchOption (command_fault fault) (Unit {0}) (λ _. EndsBy report (Err fault) old new)
ends Input report old new are h = absurd (are Input h)
ends Output report old new are h = absurd (are Output h)
ends (File name why) report old new are h = rw h refl
ends (Folder name entry) report old new are h = rw h refl
ends (ServerFault faulty) report old new are h = rw h refl
ends (Descriptor context faulty) report old new are h = rw h refl
ends (Users context faulty) report old new are h = rw h refl
ends (Class name place known) report old new are h = rw h refl
ends (Files context found path) report old new are h = rw h refl
ends (Start code context) report old new are h = rw h refl
ends (Socket found) report old new are h = rw h refl
ends (Script at) report old new are h = rw h refl
ends (User shown) report old new are h = rw h refl
ends (Role shown) report old new are h = rw h refl
ends (Method shown) report old new are h = rw h refl
ends (Refused refusal) report old new are h = rw h refl
ends NoMemory report old new are h = tt
ends (Findings count) report old new are h = absurd (are (Findings count) h)
ends (Faults count) report old new are h = rw h refl

module _ {S : Type 0} (gives : Giving S) (walks : FolderGiving S) (options : AccessOptions) (config : List ℕ) where
  pub fault_ends : (fault : CommandFault) (result : Result (Unit {0}) CommandFault) (before after : S) (old new : Option (List ℕ))
      → FindsReport (IsAudited gives walks options config) (Err fault) before after → IsErrAnd result (λ e. e ≡ fault)
      → Audits (IsAudited gives walks options config) result before after old new
  fault_ends fault (Ok done) before after old new found same = absurd same
  fault_ends fault (Err e) before after old new found same = rw same (at (command_fault fault) found (λ report are. ends fault report old new are))
    where
      at : (seen : Option CommandFault)
          → MatchOption seen (Unit {0}) (λ _. (report : Step Report) × IsAudited gives walks options config report before after × MatchOption seen (Unit {0}) (λ f. report ≡ Err f))
          → ((report : Step Report) → AreOfFiles report → MatchOption seen (Unit {0}) (λ f. report ≡ Err f) → MatchOption seen (Unit {0}) (λ _. EndsBy report (Err fault) old new))
          → MatchOption seen (Unit {0}) (λ _. (report : Step Report) × IsAudited gives walks options config report before after × EndsBy report (Err fault) old new)
      at None h end = tt
      at (Some f) h end = (h.0, h.1, end h.0 (are_of_files gives walks options config h.0 before after h.1) h.2)

  -- A report is written.
  pub report_ends : (report : Report) (result : Result (Unit {0}) CommandFault) (before after : S) (old new : Option (List ℕ))
      → FindsReport (IsAudited gives walks options config) (Ok report) before after → IsWritten report result old new
      → Audits (IsAudited gives walks options config) result before after old new
  report_ends report result before after old new found is =
      unless result ((step : Step Report) × IsAudited gives walks options config step before after × EndsBy step result old new) (found.0, found.1, rw found.2 is)

-- Before any fault but that of the output and findings nothing is written.
pub late : (Unwritten : Type 0) (report : Report) (result : Result (Unit {0}) CommandFault) (old new : Option (List ℕ)) → IsWritten report result old new
    → IfErr result (λ fault. IsBeforeOutput fault → Unwritten)
late Unwritten report (Ok done) old new is = tt
late Unwritten report (Err Input) old new is = absurd is
late Unwritten report (Err Output) old new is = λ before. absurd before
late Unwritten report (Err (File name why)) old new is = absurd is
late Unwritten report (Err (Folder name entry)) old new is = absurd is
late Unwritten report (Err (ServerFault faulty)) old new is = absurd is
late Unwritten report (Err (Descriptor context faulty)) old new is = absurd is
late Unwritten report (Err (Users context faulty)) old new is = absurd is
late Unwritten report (Err (Class name place known)) old new is = absurd is
late Unwritten report (Err (Files context found path)) old new is = absurd is
late Unwritten report (Err (Start code context)) old new is = absurd is
late Unwritten report (Err (Socket found)) old new is = absurd is
late Unwritten report (Err (Script at)) old new is = absurd is
late Unwritten report (Err (User shown)) old new is = absurd is
late Unwritten report (Err (Role shown)) old new is = absurd is
late Unwritten report (Err (Method shown)) old new is = absurd is
late Unwritten report (Err (Refused refusal)) old new is = absurd is
late Unwritten report (Err NoMemory) old new is = absurd is
late Unwritten report (Err (Findings count)) old new is = λ before. absurd before
late Unwritten report (Err (Faults count)) old new is = absurd is
