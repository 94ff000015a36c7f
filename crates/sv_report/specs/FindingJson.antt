-- Findings as JSON.
use Rattle.std.specs.Prelude.{ℕ, Bool, List, codes, Some}
use Rattle.serde_json.specs.Data.{Data, Members, boolean, string, object, no_members, put as with_member}
use Rattle.sv_constraints.specs.declared.constraint.Methods.{Methods}
use Rattle.sv_policy.specs.Covering.{method_names}
use Rattle.sv_findings.specs.declared.finding.Finding.{Finding}
use Rattle.sv_findings.specs.declared.finding.Finding.TheVariants.{Opened, Uncovered, ReadOtherwise, HeadDiffers, Dead, DeadPattern, Overruled, Unreached, Unserved, Escaped, LoginNeeds, UnknownRole, UnheldRole, UnusedRole}
use Rattle.sv_report.specs.FindingWords.{kind_name}
use Rattle.sv_report.specs.JsonParts.{are_excepted, enters, number_value, roles_in, strings}
use Rattle.sv_audit.specs.declared.access.Access.{Access}
use Rattle.sv_report.specs.declared.report.ContextReport.{ContextReport}
use Rattle.sv_report.specs.declared.report.ReportedFinding.{ReportedFinding}

-- The members, with those of the methods at a pattern.
abbrev pub with_methods : List ℕ → Methods → Members → Members
with_methods pattern methods members =
    with_member (codes "pattern") (string pattern)
    (with_member (codes "others") (boolean (are_excepted methods))
    (with_member (codes "methods") (strings (method_names methods)) members))

-- The members, with the methods at a pattern, the constraint that opens it and one that restricts it.
abbrev pub with_opened : List ℕ → Methods → ℕ → ℕ → Members → Members
with_opened pattern methods opening guarded members =
    with_methods pattern methods
    (with_member (codes "roleConstraint") (number_value (Some guarded))
    (with_member (codes "openConstraint") (number_value (Some opening)) members))

-- The members, with the callers to whom GET and HEAD are open at a pattern.
abbrev pub with_head : Bool → List ℕ → Access → Access → Members → Members
with_head has_login pattern get head members =
    with_member (codes "pattern") (string pattern)
    (with_member (codes "headRoles") (strings (roles_in head))
    (with_member (codes "head") (string (enters has_login head))
    (with_member (codes "getRoles") (strings (roles_in get))
    (with_member (codes "get") (string (enters has_login get)) members))))

-- The members, with what a finding is about.
abbrev pub with_subject : Bool → Finding → Members → Members
with_subject has_login (Opened pattern methods opening guarded) members = with_opened pattern methods opening guarded members
with_subject has_login (Uncovered pattern methods) members = with_methods pattern methods members
with_subject has_login (ReadOtherwise pattern methods other) members = with_methods pattern methods (with_member (codes "otherPattern") (string other) members)
with_subject has_login (HeadDiffers pattern get head) members = with_head has_login pattern get head members
with_subject has_login (Dead number) members = members
with_subject has_login (DeadPattern number pattern) members = with_member (codes "pattern") (string pattern) members
with_subject has_login (Overruled number) members = members
with_subject has_login (Unreached number pattern) members = with_member (codes "pattern") (string pattern) members
with_subject has_login (Unserved number pattern) members = with_member (codes "pattern") (string pattern) members
with_subject has_login (Escaped number pattern) members = with_member (codes "pattern") (string pattern) members
with_subject has_login (LoginNeeds path) members = with_member (codes "path") (string path) members
with_subject has_login (UnknownRole number role) members = with_member (codes "role") (string role) members
with_subject has_login (UnheldRole role) members = with_member (codes "role") (string role) members
with_subject has_login (UnusedRole role) members = with_member (codes "role") (string role) members

-- The members that each finding has, and what it is about.
abbrev pub finding_members : Data → Data → Data → Data → Data → Members → Members
finding_members accepted constraint key kind line subject =
    with_member (codes "line") line
    (with_member (codes "kind") kind
    (with_member (codes "key") key
    (with_member (codes "constraint") constraint
    (with_member (codes "accepted") accepted subject))))

-- A finding.
unfoldable pub finding_value : ContextReport → ReportedFinding → Data
finding_value context reported = object (finding_members
    (boolean reported.is_accepted) (number_value reported.constraint) (string reported.key) (string (kind_name reported.finding))
    (number_value reported.line) (with_subject context.has_login reported.finding no_members))
