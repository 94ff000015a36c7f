-- The JSON of access tables has no floats.
use Rattle.std.proofs.Common.{◌≡◌, ℕ, Bool, false, ◌||◌, List, [], ◌∷◌, map, refl, ap, ap₂, Option, None, Some}
use Rattle.serde_json.specs.Data.{Data, boolean, no_members, object, string}
use Rattle.serde_json.specs.View.{items_of}
use Rattle.serde_json.specs.Written.{has_float, items_have_float}
use Rattle.sv_policy.specs.Covering.{method_names}
use Rattle.sv_findings.specs.declared.reach.Reach.{Reach}
use Rattle.sv_findings.specs.declared.reach.Reach.TheVariants.{Reached, Hidden, Elsewhere, Unmatched}
use Rattle.sv_report.specs.Details.{example_location}
use Rattle.sv_report.specs.FindingJson.{finding_members, finding_value, with_subject}
use Rattle.sv_report.specs.FindingWords.{kind_name}
use Rattle.sv_report.specs.Json.{answers_value, elsewhere, group_value, listed_answers, met_value, named_viewer, row_value, unmet_value, value_by, viewer_enters, viewer_value}
use Rattle.sv_report.specs.JsonParts.{number_value, roles_in, strings, text_value, truth_value}
use Rattle.sv_report.specs.Places.{line_of}
use Rattle.sv_findings.specs.declared.finding.Finding.{Finding}
use Rattle.sv_findings.specs.declared.finding.Finding.TheVariants.{Opened, Uncovered, ReadOtherwise, HeadDiffers, Dead, DeadPattern, Overruled, Unreached, Unserved, Escaped, LoginNeeds, UnknownRole, UnheldRole, UnusedRole}
use Rattle.sv_report.specs.declared.report.Answers.{Answers}
use Rattle.sv_report.specs.declared.report.ContextReport.{ContextReport}
use Rattle.sv_report.specs.declared.report.ReportedFinding.{ReportedFinding}
use Rattle.sv_report.specs.declared.report.ReportedRow.{ReportedRow}
use Rattle.sv_report.specs.declared.report.Viewer.{Viewer}
use Rattle.sv_audit.specs.declared.rows.Group.{Group}

either : (a b : Bool) → a ≡ false → b ≡ false → (a || b) ≡ false
either a b p q = ap₂ (λ x y. x || y) p q

pub no_floats : {A : Type 0} (value : A → Data) → ((x : A) → has_float (value x) ≡ false) → (xs : List A) → items_have_float (items_of (map value xs)) ≡ false
no_floats value none [] = refl
no_floats value none (x ∷ xs) = either (has_float (value x)) (items_have_float (items_of (map value xs))) (none x) (no_floats value none xs)

pub in_strings : (texts : List (List ℕ)) → has_float (strings texts) ≡ false
in_strings texts = no_floats string (λ text. refl) texts

in_number : (n : Option ℕ) → has_float (number_value n) ≡ false
in_number None = refl
in_number (Some n) = refl

pub in_text : (text : Option (List ℕ)) → has_float (text_value text) ≡ false
in_text None = refl
in_text (Some text) = refl

pub in_truth : (holds : Option Bool) → has_float (truth_value holds) ≡ false
in_truth None = refl
in_truth (Some holds) = refl

in_group : (context : ContextReport) (group : Group) → has_float (group_value context group) ≡ false
unfolding group_value
in_group context group =
    ap₂ (λ a b. a || b) (in_number group.cell.constraint)
    (ap₂ (λ a b. a || b) (in_number (line_of context.lines group.cell.constraint))
    (ap₂ (λ a b. a || b) (in_strings (method_names group.methods))
    (ap₂ (λ a b. a || (b || false)) (in_strings (roles_in group.cell.access)) (in_truth (viewer_enters context.viewer context.has_login group.cell.access)))))

in_elsewhere : (reach : Reach) → has_float (elsewhere reach) ≡ false
in_elsewhere Reached = refl
in_elsewhere Hidden = refl
in_elsewhere (Elsewhere path) = refl
in_elsewhere Unmatched = refl

in_answers : (answers : Option Answers) → has_float (answers_value answers) ≡ false
unfolding listed_answers
in_answers None = refl
in_answers (Some answers) = ap (λ a. a || false) (in_strings answers.servlets)

in_met : (context : ContextReport) (reported : ReportedRow) → has_float (met_value context reported) ≡ false
unfolding met_value
in_met context reported =
    ap₂ (λ a b. a || b) (in_answers reported.answers)
    (ap₂ (λ a b. a || b) (in_elsewhere reported.reach)
    (ap₂ (λ a b. a || b) (in_text (example_location context.path reported.example))
    (ap₂ (λ a b. a || b) (no_floats (group_value context) (in_group context) reported.row.groups)
    (ap₂ (λ a b. a || b) (in_strings reported.narrower.patterns)
    (ap₂ (λ a b. a || (b || false)) (in_text reported.row.pattern) (in_text reported.servlet))))))

in_unmet : (reported : ReportedRow) → has_float (unmet_value reported) ≡ false
unfolding unmet_value
in_unmet reported = ap₂ (λ a b. a || (b || false)) (in_elsewhere reported.reach) (in_text reported.row.pattern)

in_value : (context : ContextReport) (reported : ReportedRow) (reach : Reach) → has_float (value_by reach context reported) ≡ false
in_value context reported Reached = in_met context reported
in_value context reported Hidden = in_unmet reported
in_value context reported (Elsewhere path) = in_unmet reported
in_value context reported Unmatched = in_unmet reported

pub in_row : (context : ContextReport) (reported : ReportedRow) → has_float (row_value context reported) ≡ false
unfolding row_value
in_row context reported = in_value context reported reported.reach

pub in_viewer : (viewer : Option Viewer) → has_float (viewer_value viewer) ≡ false
unfolding named_viewer
in_viewer None = refl
in_viewer (Some viewer) = ap (λ a. a || false) (in_strings viewer.roles)

in_members : (has_login is_accepted : Bool) (constraint line : Option ℕ) (key kind : List ℕ) (finding : Finding)
    → has_float (object (finding_members (boolean is_accepted) (number_value constraint) (string key) (string kind) (number_value line) (with_subject has_login finding no_members))) ≡ false
in_members has_login is_accepted constraint line key kind (Opened pattern methods opening guarded) = ap₂ (λ a b. a || b) (in_number constraint) (ap₂ (λ a b. a || (b || false)) (in_number line) (in_strings (method_names methods)))
in_members has_login is_accepted constraint line key kind (Uncovered pattern methods) = ap₂ (λ a b. a || b) (in_number constraint) (ap₂ (λ a b. a || (b || false)) (in_number line) (in_strings (method_names methods)))
in_members has_login is_accepted constraint line key kind (ReadOtherwise pattern methods other) = ap₂ (λ a b. a || b) (in_number constraint) (ap₂ (λ a b. a || (b || false)) (in_number line) (in_strings (method_names methods)))
in_members has_login is_accepted constraint line key kind (HeadDiffers pattern get head) = ap₂ (λ a b. a || b) (in_number constraint) (ap₂ (λ a b. a || b) (in_strings (roles_in get)) (ap₂ (λ a b. a || (b || false)) (in_strings (roles_in head)) (in_number line)))
in_members has_login is_accepted constraint line key kind (Dead number) = ap₂ (λ a b. a || (b || false)) (in_number constraint) (in_number line)
in_members has_login is_accepted constraint line key kind (DeadPattern number pattern) = ap₂ (λ a b. a || (b || false)) (in_number constraint) (in_number line)
in_members has_login is_accepted constraint line key kind (Overruled number) = ap₂ (λ a b. a || (b || false)) (in_number constraint) (in_number line)
in_members has_login is_accepted constraint line key kind (Unreached number pattern) = ap₂ (λ a b. a || (b || false)) (in_number constraint) (in_number line)
in_members has_login is_accepted constraint line key kind (Unserved number pattern) = ap₂ (λ a b. a || (b || false)) (in_number constraint) (in_number line)
in_members has_login is_accepted constraint line key kind (Escaped number pattern) = ap₂ (λ a b. a || (b || false)) (in_number constraint) (in_number line)
in_members has_login is_accepted constraint line key kind (LoginNeeds path) = ap₂ (λ a b. a || (b || false)) (in_number constraint) (in_number line)
in_members has_login is_accepted constraint line key kind (UnknownRole number role) = ap₂ (λ a b. a || (b || false)) (in_number constraint) (in_number line)
in_members has_login is_accepted constraint line key kind (UnheldRole role) = ap₂ (λ a b. a || (b || false)) (in_number constraint) (in_number line)
in_members has_login is_accepted constraint line key kind (UnusedRole role) = ap₂ (λ a b. a || (b || false)) (in_number constraint) (in_number line)

pub in_finding : (context : ContextReport) (reported : ReportedFinding) → has_float (finding_value context reported) ≡ false
unfolding finding_value
in_finding context reported =
    in_members context.has_login reported.is_accepted reported.constraint reported.line reported.key (kind_name reported.finding) reported.finding
