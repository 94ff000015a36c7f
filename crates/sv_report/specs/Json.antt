-- Access tables and their findings as JSON (RFC 8259).
use Rattle.std.specs.Prelude.{ℕ, Bool, true, List, [], ◌∷◌, ◌++◌, codes, map, Option, None, Some}
use Rattle.serde_json.specs.Data.{Data, Members, null, boolean, string, array, object, member, no_members, put as with_member}
use Rattle.serde_json.specs.View.{items_of}
use Rattle.serde_json.specs.Written.{compact_text}
use Rattle.sv_policy.specs.Covering.{method_names}
use Rattle.sv_uri.specs.ContextPath.{shown_context}
use Rattle.sv_audit.specs.declared.access.Access.{Access}
use Rattle.sv_audit.specs.declared.rows.Group.{Group}
use Rattle.sv_findings.specs.declared.reach.Reach.{Reach}
use Rattle.sv_findings.specs.declared.reach.Reach.TheVariants.{Reached, Hidden, Elsewhere, Unmatched}
use Rattle.sv_report.specs.Details.{example_location}
use Rattle.sv_report.specs.FindingJson.{finding_value}
use Rattle.sv_report.specs.JsonParts.{are_excepted, because, enters, number_value, roles_in, strings, text_value, truth_value, unsearched_value}
use Rattle.sv_report.specs.Places.{line_of}
use Rattle.sv_report.specs.Viewers.{may_enter}
use Rattle.sv_report.specs.declared.report.Answers.{Answers}
use Rattle.sv_report.specs.declared.report.ContextReport.{ContextReport}
use Rattle.sv_report.specs.declared.report.ReportedRow.{ReportedRow}
use Rattle.sv_report.specs.declared.report.Viewer.{Viewer}

-- Whether the viewer may enter, if there is one.
abbrev pub viewer_enters : Option Viewer → Bool → Access → Option Bool
viewer_enters None has_login access = None
viewer_enters (Some viewer) has_login access = Some (may_enter viewer has_login access)

-- The members, with who may enter and why.
abbrev pub with_access : ContextReport → Access → Members → Members
with_access context access members =
    with_member (codes "viewerEnters") (truth_value (viewer_enters context.viewer context.has_login access))
    (with_member (codes "roles") (strings (roles_in access))
    (with_member (codes "enters") (string (enters context.has_login access))
    (with_member (codes "because") (string (because context.has_login access)) members)))

-- A group of methods.
unfoldable pub group_value : ContextReport → Group → Data
group_value context group = object
    (with_member (codes "others") (boolean (are_excepted group.methods))
    (with_member (codes "methods") (strings (method_names group.methods))
    (with_member (codes "line") (number_value (line_of context.lines group.cell.constraint))
    (with_member (codes "constraint") (number_value group.cell.constraint) (with_access context group.cell.access no_members)))))

-- Whether requests meet a pattern, in one word.
abbrev pub reach_word : Reach → List ℕ
reach_word Reached = codes "reached"
reach_word Hidden = codes "hidden"
reach_word (Elsewhere path) = codes "elsewhere"
reach_word Unmatched = codes "unmatched"

-- The path of the context that has the paths of a pattern instead.
abbrev pub elsewhere : Reach → Data
elsewhere Reached = null
elsewhere Hidden = null
elsewhere (Elsewhere path) = string path
elsewhere Unmatched = null

-- What answers the paths of a row.
unfoldable pub listed_answers : Answers → Data
listed_answers answers = object (member (codes "files") (boolean answers.has_files) (member (codes "servlets") (strings answers.servlets) no_members))

abbrev pub answers_value : Option Answers → Data
answers_value None = null
answers_value (Some answers) = listed_answers answers

-- A row that requests meet.
unfoldable pub met_value : ContextReport → ReportedRow → Data
met_value context reported = object
    (member (codes "answers") (answers_value reported.answers)
    (member (codes "context") (elsewhere reported.reach)
    (member (codes "example") (text_value (example_location context.path reported.example))
    (member (codes "groups") (array (items_of (map (group_value context) reported.row.groups)))
    (member (codes "narrower") (strings reported.narrower.patterns)
    (member (codes "narrowerComplete") (boolean reported.narrower.are_all)
    (member (codes "pattern") (text_value reported.row.pattern)
    (member (codes "reach") (string (reach_word reported.reach))
    (member (codes "servlet") (text_value reported.servlet) no_members)))))))))

-- A row that no request meets. It shows nobody who enters, and nothing that answers.
unfoldable pub unmet_value : ReportedRow → Data
unmet_value reported = object
    (member (codes "answers") null
    (member (codes "context") (elsewhere reported.reach)
    (member (codes "example") null
    (member (codes "groups") (array (items_of []))
    (member (codes "narrower") (strings [])
    (member (codes "narrowerComplete") (boolean true)
    (member (codes "pattern") (text_value reported.row.pattern)
    (member (codes "reach") (string (reach_word reported.reach))
    (member (codes "servlet") null no_members)))))))))

-- A row, by whether requests meet it.
abbrev pub value_by : Reach → ContextReport → ReportedRow → Data
value_by Reached context reported = met_value context reported
value_by Hidden context reported = unmet_value reported
value_by (Elsewhere path) context reported = unmet_value reported
value_by Unmatched context reported = unmet_value reported

unfoldable pub row_value : ContextReport → ReportedRow → Data
row_value context reported = value_by reported.reach context reported

unfoldable pub named_viewer : Viewer → Data
named_viewer viewer = object (member (codes "name") (string viewer.name) (member (codes "roles") (strings viewer.roles) no_members))

abbrev pub viewer_value : Option Viewer → Data
viewer_value None = null
viewer_value (Some viewer) = named_viewer viewer

abbrev pub findings_value : ContextReport → Data
findings_value context = array (items_of (map (finding_value context) context.findings))

abbrev pub rows_value : ContextReport → Data
rows_value context = array (items_of (map (row_value context) context.rows))

-- The table of a context, its findings, and the paths that constraints do not decide: the protected folders (sections
-- 10.5 and 10.6), the login post of a form login (section 13.6.3.1) and other contexts (section 12.1).
unfoldable pub context_value : ContextReport → Data
context_value context = object
    (member (codes "context") (string (shown_context context.path))
    (member (codes "file") (string context.file)
    (member (codes "findings") (findings_value context)
    (member (codes "hidden") (strings (codes "/WEB-INF/*" ∷ codes "/META-INF/*" ∷ []))
    (member (codes "login") (boolean context.has_login)
    (member (codes "loginPost") (boolean context.has_login)
    (member (codes "otherContexts") (strings context.others)
    (member (codes "rows") (rows_value context)
    (member (codes "unsearched") (unsearched_value context.unsearched)
    (member (codes "viewer") (viewer_value context.viewer) no_members))))))))))

unfoldable pub audit_value : List ContextReport → Data
audit_value contexts = object (member (codes "contexts") (array (items_of (map context_value contexts))) no_members)

-- The value on one line.
abbrev pub audit_json : List ContextReport → List ℕ
audit_json contexts = compact_text (audit_value contexts) ++ codes "\n"
