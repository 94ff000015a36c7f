-- The report of the command `audit`, from the texts of the files.
use Rattle.std.specs.Prelude.{◌≡◌, ℕ, Bool, not, ◌&&◌, List, [], ◌∷◌, ◌++◌, filter, length, map, Option, None, Some, Ok, is_some, option_copied}
use Rattle.std.specs.List.{flat_map}
use Rattle.sv_text.specs.Steps.{◌>>=◌}
use Rattle.sv_deployments.specs.declared.folders.FoundContext.{FoundContext}
use Rattle.sv_descriptor.specs.declared.server.ContextEntry.{ContextEntry}
use Rattle.sv_difference.specs.declared.contexts.ServerDifference.{ServerDifference}
use Rattle.sv_program.specs.Configuration.{Step, server_in, text_of}
use Rattle.sv_program.specs.ConfigurationFiles.{contexts_in, readings}
use Rattle.sv_program.specs.FileStore.{AreRead, FileText, Giving, Reading}
use Rattle.sv_report.specs.FindingWords.{kind_name}
use Rattle.sv_page.specs.Page.{audit_html}
use Rattle.sv_report.specs.Json.{audit_json}
use Rattle.sv_report.specs.Keys.{keys_text}
use Rattle.sv_report.specs.Text.{audit_text}
use Rattle.sv_report.specs.declared.report.ContextReport.{ContextReport}
use Rattle.sv_report.specs.declared.report.ReportedFinding.{ReportedFinding}
use Rattle.sv_audited_contexts.specs.Audited.{audited_contexts}
use Rattle.sv_audit_command.specs.ComparedServers as compared
use Rattle.sv_audit_command.specs.ComparedServers.{difference, opened_count, other_server}
use Rattle.sv_audit_command.specs.ContextReports.{context_report}
use Rattle.sv_audit_command.specs.ExplainedRequest.{explained}
use Rattle.sv_audit_command.specs.Kinds.{lists_kind}
use Rattle.sv_audited_contexts.specs.LineFile.{located}
use Rattle.sv_audit_command.specs.Viewer.{check_viewer}
use Rattle.sv_audited_contexts.specs.declared.audited_context.AuditedContext.{AuditedContext}
use Rattle.sv_audited_contexts.specs.declared.audited_context.ContextOptions.{ContextOptions}
use Rattle.sv_audit_command.specs.declared.further_files.FurtherFiles.{FurtherFiles}
use Rattle.sv_audit_command.specs.declared.further_files.OtherFiles.{OtherFiles}
use Rattle.sv_audit_command.specs.declared.access_options.AccessOptions.{AccessOptions}
use Rattle.sv_audit_command.specs.declared.access_options.Format.{Format}
use Rattle.sv_audit_command.specs.declared.access_options.Format.TheVariants as format
use Rattle.sv_audit_command.specs.declared.audit_report.Report.{Report}

-- The reading of a file that an option names, if it names one.
abbrev pub asked_readings : Option (List ℕ) → FileText → List Reading
asked_readings None file = []
asked_readings (Some its_name) file = record { name = its_name; text = file } ∷ []

-- The name of the other server file, unless the report is on one request.
abbrev pub other_if : Option (List ℕ) → Option (List ℕ) → Option (List ℕ)
other_if None diff = diff
other_if (Some target) diff = None

abbrev pub other_name : AccessOptions → Option (List ℕ)
other_name options = other_if (option_copied options.path) (option_copied options.diff)

-- The readings of another server file and of the files of its contexts, if there is one.
abbrev pub other_readings : Option (List ℕ) → OtherFiles → List Reading
other_readings None other = []
other_readings (Some its_name) other = readings its_name other.server other.contexts

-- Its contexts; none without another server file, or if it has a fault.
abbrev pub other_contexts : Option (List ℕ) → FileText → List ContextEntry
other_contexts None file = []
other_contexts (Some its_name) file = contexts_in (server_in its_name file)

-- The other server file is read, and then the files of its contexts.
abbrev pub ReadsOther : {S : Type 0} → Giving S → Option (List ℕ) → S → OtherFiles → S → Type 0
ReadsOther gives name before other after =
    (map (λ text. text.context) other.contexts ≡ other_contexts name other.server) × AreRead gives before (other_readings name other) after

-- The readings of the accepting file, of the file of lines, and of the other server's files.
abbrev pub further_readings : AccessOptions → FurtherFiles → List Reading
further_readings options files =
    asked_readings (option_copied options.accept) files.accept ++ asked_readings (option_copied options.lines) files.lines ++ other_readings (other_name options) files.other

-- The accepting file is read, then the file of lines, and then the other server's files.
abbrev pub ReadsFurther : {S : Type 0} → Giving S → AccessOptions → S → FurtherFiles → S → Type 0
ReadsFurther {S} gives options before files after =
    (between : S) × (beyond : S) × ReadsOther gives (other_name options) beyond files.other after
    × AreRead gives before (asked_readings (option_copied options.accept) files.accept) between
    × AreRead gives between (asked_readings (option_copied options.lines) files.lines) beyond

-- The text of a file that an option names, or its fault; empty if it names none.
abbrev pub asked_text : Option (List ℕ) → FileText → Step (List ℕ)
asked_text None file = Ok []
asked_text (Some name) file = text_of name file

-- The reports in a form.
abbrev pub written : Format → List ContextReport → List ℕ
written format.Text reports = audit_text reports
written format.Json reports = audit_json reports
written format.Html reports = audit_html reports
written format.Keys reports = keys_text reports

-- Whether a finding is of these kinds, and not accepted.
abbrev pub fails : List ℕ → ReportedFinding → Bool
fails kinds finding = not finding.is_accepted && lists_kind kinds (kind_name finding.finding)

abbrev pub failing : List ℕ → List ContextReport → List ReportedFinding
failing kinds reports = flat_map (λ report. filter (fails kinds) report.findings) reports

-- The number of these findings; without kinds, none.
abbrev pub failing_count : Option (List ℕ) → List ContextReport → ℕ
failing_count None reports = 0
failing_count (Some kinds) reports = length (failing kinds reports)

abbrev pub reports_of : AccessOptions → List ℕ → List AuditedContext → List ContextReport
reports_of options accepted contexts = map (context_report options.viewer accepted) contexts

-- The report on contexts, given the text of the accepting file.
abbrev pub report_of : AccessOptions → List ℕ → List AuditedContext → Report
report_of options accepted contexts = record {
  text = written options.format (reports_of options accepted contexts);
  count = failing_count (option_copied options.fail_on) (reports_of options accepted contexts);
}

-- A report on one request fails no audit.
abbrev pub without_failures : List ℕ → Report
without_failures its_text = record { text = its_text; count = 0 }

abbrev pub explanation_report : AccessOptions → List ℕ → List AuditedContext → Step Report
explanation_report options target contexts = do
  its_text ← explained options target contexts
  Ok (without_failures its_text)

abbrev pub difference_in : AccessOptions → ServerDifference → Report
difference_in options found = record { text = compared.written options.format found; count = opened_count (option_copied options.fail_on) found }

-- The report on the differences between the contexts and those of the other server, whose file has this name.
abbrev pub difference_report : AccessOptions → List ℕ → OtherFiles → List AuditedContext → Step Report
difference_report options name other contexts = do
  others ← other_server options.is_secure name other
  Ok (difference_in options (difference contexts others))

abbrev pub access_report : AccessOptions → Option (List ℕ) → List ℕ → OtherFiles → List AuditedContext → Step Report
access_report options None accepted other contexts = Ok (report_of options accepted contexts)
access_report options (Some name) accepted other contexts = difference_report options name other contexts

-- The report on one request if its target is named, otherwise the one on differences if another server file is named, and
-- otherwise the one on all access.
abbrev pub report_by : AccessOptions → Option (List ℕ) → List ℕ → OtherFiles → List AuditedContext → Step Report
report_by options None accepted other contexts = access_report options (option_copied options.diff) accepted other contexts
report_by options (Some target) accepted other contexts = explanation_report options target contexts

-- A descriptor is kept if the report is on one request.
abbrev pub context_options : AccessOptions → ContextOptions
context_options options = record {
  is_secure = options.is_secure;
  keeps_descriptor = is_some (option_copied options.path);
  has_unknown_files = options.has_unknown_files;
}

-- The report, or the first fault: of the contexts' files, of the accepting file, of the file of lines, of the viewer, and
-- of the method or of the other server's files.
abbrev pub report_on : AccessOptions → List FoundContext → FurtherFiles → Step Report
report_on options found files = do
  contexts ← audited_contexts (context_options options) found
  accepted ← asked_text (option_copied options.accept) files.accept
  lines ← asked_text (option_copied options.lines) files.lines
  known ← check_viewer options.viewer contexts
  report_by options (option_copied options.path) accepted files.other (located (option_copied options.lines) lines contexts)
