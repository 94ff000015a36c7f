-- The text of access tables and their findings.
use Rattle.std.specs.Prelude.{ℕ, ◌-◌, Bool, true, false, nat_lt, List, [], ◌∷◌, ◌++◌, chars, codes, length, Option, replicate, if◌then◌else◌}
use Rattle.std.specs.List.{flat_map, list_any}
use Rattle.sv_uri.specs.ContextPath.{shown_context}
use Rattle.sv_report.specs.Details.{detail_line}
use Rattle.sv_report.specs.Escaped.{escaped}
use Rattle.sv_report.specs.Folded.{folded}
use Rattle.sv_report.specs.FindingText.{finding_lines, unsearched_line}
use Rattle.sv_report.specs.Parts.{joined}
use Rattle.sv_report.specs.Places.{constraint_text}
use Rattle.sv_report.specs.Viewers.{context_text, entry_text, hidden_text, unmatched_text, viewer_title}
use Rattle.sv_report.specs.Words.{methods_text, pattern_text}
use Rattle.sv_report.specs.declared.lines.TheConstants.{METHODS_WIDTH, PATTERN_WIDTH, WHO_WIDTH}
use Rattle.sv_report.specs.declared.report.ContextReport.{ContextReport}
use Rattle.sv_report.specs.declared.report.ReportedRow.{ReportedRow}
use Rattle.sv_report.specs.declared.report.Viewer.{Viewer}
use Rattle.sv_audit.specs.declared.access.Access.{Access}
use Rattle.sv_audit.specs.declared.access.Access.TheVariants.{NeedsTls}
use Rattle.sv_audit.specs.declared.rows.Group.{Group}
use Rattle.sv_findings.specs.declared.reach.Reach.{Reach}
use Rattle.sv_findings.specs.declared.reach.Reach.TheVariants.{Reached, Hidden, Elsewhere, Unmatched}

-- The number of spaces after a text of so many characters in a column of this width.
abbrev pub gap_after : ℕ → ℕ → ℕ
gap_after width used = if nat_lt used width then width - used else 2

abbrev pub padded : ℕ → List ℕ → List ℕ
padded width text = text ++ replicate (gap_after width (length (chars text))) 32

-- A line of four columns.
unfoldable pub line_text : List ℕ → List ℕ → List ℕ → List ℕ → List ℕ
line_text pattern methods who constraint = padded PATTERN_WIDTH pattern ++ padded METHODS_WIDTH methods ++ padded WHO_WIDTH who ++ constraint ++ codes "\n"

-- The line of a group, with the text of its pattern.
abbrev pub group_line : ContextReport → List ℕ → Group → List ℕ
group_line context pattern group =
    line_text pattern (methods_text group.methods) (entry_text context.viewer context.has_login group.cell.access) (constraint_text context.lines group.cell.constraint)

-- The lines of groups; only the first has the pattern.
abbrev pub group_lines : ContextReport → List ℕ → List Group → List ℕ
group_lines context pattern [] = []
group_lines context pattern (group ∷ groups) = group_line context pattern group ++ flat_map (group_line context []) groups

-- The line of a pattern whose constraints are never asked.
abbrev pub unreached_line : List ℕ → List ℕ → List ℕ
unreached_line pattern who = line_text pattern (codes "all") who (codes "-")

-- The lines of a pattern: of its groups, with what they mean for paths, or why no request meets it.
abbrev pub reach_lines : ContextReport → ReportedRow → Reach → List ℕ → List ℕ
reach_lines context reported Reached pattern = group_lines context pattern reported.row.groups ++ detail_line context.path reported
reach_lines context reported Hidden pattern = unreached_line pattern (hidden_text context.viewer)
reach_lines context reported (Elsewhere path) pattern = unreached_line pattern (context_text path)
reach_lines context reported Unmatched pattern = unreached_line pattern unmatched_text

abbrev pub row_lines : ContextReport → ReportedRow → List ℕ
row_lines context reported = reach_lines context reported reported.reach (pattern_text reported.row.pattern)

abbrev pub heading_line : ContextReport → List ℕ
heading_line context = joined (codes "context " ∷ escaped (shown_context context.path) ∷ codes " (" ∷ escaped context.file ∷ codes ")\n" ∷ [])

abbrev pub title_line : Option Viewer → List ℕ
title_line viewer = line_text (codes "pattern") (codes "methods") (viewer_title viewer) (codes "constraint")

-- The protected folders (sections 10.5 and 10.6).
abbrev pub hidden_line : Option Viewer → List ℕ
hidden_line viewer = unreached_line (codes "/WEB-INF/*, /META-INF/*") (hidden_text viewer)

-- The login post of a form login (section 13.6.3.1).
abbrev pub login_line : Bool → List ℕ
login_line has_login = if has_login then line_text (codes "*/j_security_check") (codes "POST") (codes "login post") (codes "-") else []

-- The paths of another context within the one with this path (section 12.1).
abbrev pub other_line : List ℕ → List ℕ → List ℕ
other_line context other = unreached_line (joined (escaped other ∷ codes "/*" ∷ [])) (context_text (joined (context ∷ other ∷ [])))

-- Whether callers are refused only since the connection is plain (section 13.8.1).
abbrev pub needs_tls : Access → Bool
needs_tls NeedsTls = true
needs_tls access = false

-- The same of one of these groups, at a pattern that requests meet.
abbrev pub reach_has_tls : Reach → List Group → Bool
reach_has_tls Reached groups = list_any (λ group. needs_tls group.cell.access) groups
reach_has_tls reach groups = false

abbrev pub row_has_tls : ReportedRow → Bool
row_has_tls reported = reach_has_tls reported.reach reported.row.groups

-- Whether some request needs TLS.
abbrev pub has_tls : ContextReport → Bool
has_tls context = list_any row_has_tls context.rows

-- A note that the table and the findings do not say who enters with TLS.
abbrev pub transport_line : ContextReport → List ℕ
transport_line context = if has_tls context then codes "some requests need TLS: --secure shows who enters then, and its findings\n" else []

-- The lines of a context.
abbrev pub context_lines : ContextReport → List ℕ
context_lines context =
    heading_line context ++ title_line context.viewer
    ++ flat_map (row_lines context) context.rows ++ hidden_line context.viewer ++ login_line context.has_login
    ++ flat_map (other_line context.path) context.others ++ transport_line context
    ++ flat_map (finding_lines context) context.findings ++ flat_map unsearched_line context.unsearched

-- The lines of contexts, with an empty line between two.
abbrev pub contexts_text : List ContextReport → List ℕ
contexts_text [] = []
contexts_text (context ∷ contexts) = context_lines context ++ flat_map (λ other. codes "\n" ++ context_lines other) contexts

-- The same with lines of at most 100 characters.
abbrev pub audit_text : List ContextReport → List ℕ
audit_text contexts = folded (contexts_text contexts)
