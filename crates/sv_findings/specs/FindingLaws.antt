-- What findings say of the verdicts (Jakarta Servlet 6.0, sections 3.5.2, 12.1, 13.6 and 13.8).
use Rattle.std.specs.Prelude.{◌≡◌, ◌≢◌, ◌≤◌, ℕ, Bool, true, false, ◌&&◌, ◌||◌, ◌==◌, ◌⊎◌, List, [], length, codes, filter, Option, None, Some, All, Contains, IsTrue}
use Rattle.std.specs.List.{list_any}
use Rattle.std.specs.Str.{bytes_eq}
use Rattle.sv_mapping.specs.BestMatch.{best_pattern}
use Rattle.sv_mapping.specs.Pattern.{form, matches}
use Rattle.sv_mapping.specs.Protected.{is_protected}
use Rattle.sv_realm.specs.declared.caller.Caller.{Caller}
use Rattle.sv_constraints.specs.Covering.{all_patterns, covering, covers, covers_method, lists, patterns_in}
use Rattle.sv_constraints.specs.Verdict.{is_open, verdict, verdict_at}
use Rattle.sv_constraints.specs.declared.cause.Cause.TheVariants as cause
use Rattle.sv_constraints.specs.declared.constraint.Auth.{Auth}
use Rattle.sv_constraints.specs.declared.constraint.Auth.TheVariants as auth
use Rattle.sv_constraints.specs.declared.constraint.Constraint.{Constraint}
use Rattle.sv_constraints.specs.declared.constraint.Rules.{Rules}
use Rattle.sv_constraints.specs.declared.owned_decision.OwnedDecision.{OwnedDecision}
use Rattle.sv_policy.specs.Covering.{named_methods}
use Rattle.sv_policy.specs.Patterns.{lists_pattern}
use Rattle.sv_policy.specs.Uncovered.{is_uncovered, rising}
use Rattle.sv_audit.specs.Access.{roles_meant}
use Rattle.sv_audit.specs.Configurations.{Configuration, fate_of}
use Rattle.sv_audit.specs.Shapes.{IsServed, matches_nothing}
use Rattle.sv_findings.specs.Dead.{decides_nothing, is_dead, is_escaped, is_tried_late}
use Rattle.sv_overruled.specs.Overruled.{others}
use Rattle.sv_findings.specs.Overruled.{compared}
use Rattle.sv_findings.specs.Unsearched.{is_overruled_kind, is_unserved_kind, unsearched}
use Rattle.sv_overruled.specs.declared.overruled.TheConstants.{MAX_COMPARED_AT_PATTERN}
use Rattle.sv_findings.specs.Findings.{findings_of, met_rows}
use Rattle.sv_findings.specs.Reach.{is_reached}
use Rattle.sv_findings.specs.MetRows.{is_met}
use Rattle.sv_findings.specs.Readings.{is_prefix}
use Rattle.sv_findings.specs.Unserved.{holds, is_unserved, reached_files}
use Rattle.sv_findings.specs.LoginNeeds.{all_asked, folder_of, folder_of_form, target_in, is_absolute, loaded_references, needed_at, path_part}
use Rattle.sv_findings.specs.declared.surroundings.LoginPage.{LoginPage}
use Rattle.sv_audit.specs.Reading.{Kind, NeedsLogin, Passes, kind_and_cause, said_to}
use Rattle.sv_audit.specs.Rows.{table_of}
use Rattle.sv_audit.specs.Secure.{secure}
use Rattle.sv_audit.specs.declared.access.Access.{Access}
use Rattle.sv_findings.specs.declared.asked_folders.TheConstants.{MAX_ASKED_FOLDERS}
use Rattle.sv_findings.specs.declared.finding.Finding.{Finding}
use Rattle.sv_findings.specs.declared.finding.Finding.TheVariants.{Opened, Uncovered, ReadOtherwise, HeadDiffers, Dead, DeadPattern, Overruled, Unreached, Unserved, Escaped, LoginNeeds, UnknownRole, UnheldRole, UnusedRole}
use Rattle.sv_findings.specs.declared.surroundings.Surroundings.{Surroundings}

-- The names that an authorization constraint lists.
abbrev pub names_in : Auth → List (List ℕ)
names_in auth.Absent = []
names_in (auth.Roles names) = names

-- The constraint covers no method at a pattern that is the best match of the path of a request.
abbrev pub CoversNothing : List Constraint → Constraint → Type 0
CoversNothing constraints constraint = (method path pattern : List ℕ) → IsServed path → best_pattern (all_patterns constraints) path ≡ Some pattern → covers constraint pattern method ≡ false

-- The pattern is the best match of no path of a request.
abbrev pub IsNeverBest : List Constraint → List ℕ → Type 0
IsNeverBest constraints pattern = (path : List ℕ) → IsServed path → best_pattern (all_patterns constraints) path ≢ Some pattern

-- Two constraints with these numbers cover the method at the pattern, the first without an authorization constraint and
-- the second with one.
pub record AreBothOn (constraints : List Constraint) (pattern method : List ℕ) (number other : ℕ) : Type 0 where
  pub first : Constraint
  pub second : Constraint
  pub first_listed : Contains constraints first
  pub second_listed : Contains constraints second
  pub first_number : first.number ≡ number
  pub second_number : second.number ≡ other
  pub opens : is_open first ≡ true
  pub restricts : is_open second ≡ false
  pub first_covers : covers first pattern method ≡ true
  pub second_covers : covers second pattern method ≡ true

-- Some constraint means the role.
abbrev pub IsMeant : List Constraint → Rules → List ℕ → Type 0
IsMeant constraints rules role = (constraint : Constraint) × Contains constraints constraint × IsTrue (lists (roles_meant rules.declared constraint.auth) role)

-- A constraint with an authorization constraint covers the method at the pattern.
abbrev pub IsRestricted : List Constraint → List ℕ → List ℕ → Type 0
IsRestricted constraints pattern method = (constraint : Constraint) × Contains constraints constraint × (is_open constraint ≡ false) × IsTrue (covers constraint pattern method)

-- Everyone passes with the method at each path of the pattern, since a constraint needs no authorization.
abbrev pub IsOpen : List Constraint → Rules → List ℕ → List ℕ → Type 0
IsOpen constraints rules pattern method =
    (path : List ℕ) (caller : Option Caller) → best_pattern (all_patterns constraints) path ≡ Some pattern → kind_and_cause (verdict constraints rules method path caller) ≡ (Passes, cause.Unauthenticated)

-- The access says what the verdict on the method is at each path of the pattern.
abbrev pub IsAccessOf : List Constraint → Rules → List ℕ → List ℕ → Access → Type 0
IsAccessOf constraints rules pattern method access =
    (path : List ℕ) (caller : Option Caller) → best_pattern (all_patterns constraints) path ≡ Some pattern → said_to caller access ≡ kind_and_cause (verdict constraints rules method path caller)

-- If the pattern decides, a request with the method and without a caller does not pass.
abbrev pub IsShut : List Constraint → Rules → List ℕ → List ℕ → Type 0
IsShut constraints rules pattern method = (kind_and_cause (verdict_at rules None (Some pattern) (covering constraints (Some pattern) method))).0 ≢ Passes

-- The context of the constraints, which has a login configuration or not.
abbrev pub configuration_of : List Constraint → Rules → Surroundings → Configuration
configuration_of its_constraints its_rules surroundings = record { constraints = its_constraints; rules = its_rules; has_login = surroundings.has_login }

-- The fates of a visitor's requests with GET and with HEAD differ.
abbrev pub FaresDifferently : Configuration → List ℕ → Option Caller → Type 0
FaresDifferently it path visitor = fate_of it (codes "GET") path visitor ≢ fate_of it (codes "HEAD") path visitor

-- The kind of the verdict by the constraints that cover a request at its best pattern.
abbrev pub kind_by : Rules → Option Caller → List ℕ → List Constraint → Kind
kind_by rules caller pattern members = (kind_and_cause (verdict_at rules caller (Some pattern) members)).0

-- The constraints that cover a request decide it as those of them with other numbers do, with and without their transport
-- requirements.
abbrev pub AreAlike : Rules → ℕ → List ℕ → List Constraint → Type 0
AreAlike rules number pattern members =
    (caller : Option Caller) → (kind_by rules caller pattern members ≡ kind_by rules caller pattern (others number members))
    × (kind_by rules caller pattern (secure members) ≡ kind_by rules caller pattern (secure (others number members)))

-- Other constraints list the pattern, they cover the same methods there as all do, and they decide requests alike.
abbrev pub ChangesNothing : List Constraint → Rules → Constraint → List ℕ → Type 0
ChangesNothing constraints rules constraint pattern = IsTrue (lists (all_patterns (others constraint.number constraints)) pattern)
    × ((method : List ℕ) → (is_uncovered (others constraint.number constraints) pattern method ≡ is_uncovered constraints pattern method)
    × AreAlike rules constraint.number pattern (covering constraints (Some pattern) method))

-- A constraint with this number changes nothing at each of its patterns that is the best match of the path of a request.
abbrev pub IsOverruled : List Constraint → Rules → ℕ → Type 0
IsOverruled constraints rules its_number = (constraint : Constraint) × Contains constraints constraint × (constraint.number ≡ its_number)
    × ((path pattern : List ℕ) → IsServed path → best_pattern (all_patterns constraints) path ≡ Some pattern → IsTrue (lists (patterns_in constraint) pattern) → ChangesNothing constraints rules constraint pattern)

-- Few constraints list the pattern, and they name few methods there.
abbrev pub AreFew : List Constraint → List ℕ → Type 0
AreFew constraints pattern = (length (filter (λ constraint. lists_pattern constraint pattern) constraints) ≤ MAX_COMPARED_AT_PATTERN) × (length (rising (named_methods constraints pattern)) ≤ MAX_COMPARED_AT_PATTERN)

-- Some requests may reach the pattern and have it as their best match.
abbrev pub IsMet : List Constraint → Surroundings → List ℕ → Type 0
IsMet constraints surroundings pattern = IsTrue (is_met surroundings.contexts surroundings.path (all_patterns constraints) pattern)

-- Requests meet the pattern of a constraint, and a GET without a caller leads to a login at each of its paths.
pub record LeadsToLogin (constraints : List Constraint) (rules : Rules) (surroundings : Surroundings) (pattern : List ℕ) : Type 0 where
  pub has_login : surroundings.has_login ≡ true
  pub is_listed : IsTrue (lists (all_patterns constraints) pattern)
  pub is_met : IsMet constraints surroundings pattern
  pub needs_login : (path : List ℕ) → best_pattern (all_patterns constraints) path ≡ Some pattern → (kind_and_cause (verdict constraints rules (codes "GET") path None)).0 ≡ NeedsLogin

-- A browser may resolve the relative references of the page against the folder. It is that of the page, which is not hidden,
-- or that of a pattern at which a GET without a caller leads to a login: there the page is the answer, by a forward.
abbrev pub IsBase : List Constraint → Rules → Surroundings → LoginPage → List ℕ → Type 0
IsBase constraints rules surroundings page folder = ((is_protected page.path ≡ false) × (folder ≡ folder_of page.path))
    ⊎ ((pattern : List ℕ) × LeadsToLogin constraints rules surroundings pattern × (folder ≡ folder_of_form (form pattern)))

-- The target is the path of the reference, or this path in such a folder if the reference is relative.
abbrev pub Means : List Constraint → Rules → Surroundings → LoginPage → List ℕ → List ℕ → Type 0
Means constraints rules surroundings page reference target = (IsTrue (is_absolute reference) × (target ≡ path_part reference))
    ⊎ ((is_absolute reference ≡ false) × (folder : List ℕ) × IsBase constraints rules surroundings page folder × (target ≡ target_in surroundings.path folder (path_part reference)))

-- Everyone passes with each of the methods, which a constraint with an authorization constraint covers, too, and both
-- constraints cover one of them; each method of the finding passes at each path of the pattern, since it is uncovered;
-- each method is uncovered at a prefix pattern, but some constraint covers one of them at a pattern that is tried later,
-- and a request without a caller does not pass with it if that pattern decides; the accesses are those of GET and HEAD,
-- and some visitor fares differently with them at each path of the pattern; the constraint covers nothing; the constraint has the pattern, which is never best; the
-- constraint, with its transport requirements, changes nothing at each of its patterns that is the best match of the path
-- of a request; the constraint has the pattern, which is not reached; the constraint has the pattern, the files are known, and at no path that it matches is there a servlet,
-- a file that requests reach, or a folder that holds one; the constraint has the pattern, with a percent sign; the login page refers to the
-- path, directly or from a folder in which a GET without a caller leads to a login, and a request without a caller does
-- not pass there; the constraint names the role, which is not declared; a
-- constraint means the role, which is declared if any is, and no user has it; the role is declared, and no constraint
-- means it.
abbrev pub IsRight : List Constraint → Rules → Surroundings → Finding → Type 0
IsRight constraints rules surroundings (Opened pattern methods number other) = ((method : List ℕ) → IsTrue (covers_method methods method) → IsRestricted constraints pattern method × IsOpen constraints rules pattern method)
    × ((method : List ℕ) × IsTrue (covers_method methods method) × AreBothOn constraints pattern method number other)
IsRight constraints rules surroundings (Uncovered pattern methods) = (method path : List ℕ) (caller : Option Caller) → best_pattern (all_patterns constraints) path ≡ Some pattern →
    IsTrue (covers_method methods method) → kind_and_cause (verdict constraints rules method path caller) ≡ (Passes, cause.Uncovered)
IsRight constraints rules surroundings (ReadOtherwise pattern methods other) = IsTrue (is_prefix (form pattern)) × IsTrue (is_tried_late other) × (rules.deny_uncovered ≡ false)
    × ((method : List ℕ) → IsTrue (covers_method methods method) → IsTrue (is_uncovered constraints pattern method))
    × ((method : List ℕ) × IsTrue (covers_method methods method) × (is_uncovered constraints other method ≡ false) × IsShut constraints rules other method)
IsRight constraints rules surroundings (HeadDiffers pattern get head) = IsAccessOf constraints rules pattern (codes "GET") get × IsAccessOf constraints rules pattern (codes "HEAD") head
    × (visitor : Option Caller) × ((path : List ℕ) → best_pattern (all_patterns constraints) path ≡ Some pattern → FaresDifferently (configuration_of constraints rules surroundings) path visitor)
IsRight constraints rules surroundings (Dead its_number) = (constraint : Constraint) × Contains constraints constraint × (constraint.number ≡ its_number) × CoversNothing constraints constraint
IsRight constraints rules surroundings (DeadPattern its_number pattern) = (constraint : Constraint) × Contains constraints constraint × (constraint.number ≡ its_number)
    × IsTrue (lists (patterns_in constraint) pattern) × IsNeverBest constraints pattern
IsRight constraints rules surroundings (Overruled its_number) = IsOverruled (compared surroundings constraints) rules its_number
IsRight constraints rules surroundings (Unreached its_number pattern) = (constraint : Constraint) × Contains constraints constraint × (constraint.number ≡ its_number)
    × IsTrue (lists (patterns_in constraint) pattern) × (is_reached surroundings.contexts surroundings.path pattern ≡ false)
IsRight constraints rules surroundings (Unserved its_number pattern) = (constraint : Constraint) × Contains constraints constraint × (constraint.number ≡ its_number)
    × IsTrue (lists (patterns_in constraint) pattern) × (files : List (List ℕ)) × (surroundings.files ≡ Some files)
    × ((path : List ℕ) → IsTrue (matches pattern path) → (list_any (λ servlet. matches servlet path) surroundings.servlets ≡ false) × (list_any (holds path) (reached_files surroundings.contexts surroundings.path files) ≡ false))
IsRight constraints rules surroundings (Escaped its_number pattern) = (constraint : Constraint) × Contains constraints constraint × (constraint.number ≡ its_number)
    × IsTrue (lists (patterns_in constraint) pattern) × IsTrue (is_escaped pattern)
IsRight constraints rules surroundings (LoginNeeds path) = (page : LoginPage) × (surroundings.login_page ≡ Some page) × ((kind_and_cause (verdict constraints rules (codes "GET") path None)).0 ≢ Passes)
    × ((reference : List ℕ) × IsTrue (lists (loaded_references page.text) reference)
    × ((target : List ℕ) × Means constraints rules surroundings page reference target × (needed_at surroundings.contexts surroundings.path constraints rules target ≡ Some path)))
IsRight constraints rules surroundings (UnknownRole its_number role) = (constraint : Constraint) × Contains constraints constraint × (constraint.number ≡ its_number)
    × IsTrue (lists (names_in constraint.auth) role) × (lists rules.declared role ≡ false)
IsRight constraints rules surroundings (UnheldRole role) = (users : List (List ℕ)) × (surroundings.held ≡ Some users) × IsMeant constraints rules role
    × IsTrue (length rules.declared == 0 || lists rules.declared role) × (lists users role ≡ false)
IsRight constraints rules surroundings (UnusedRole role) = IsTrue (lists rules.declared role)
    × ((constraint : Constraint) → Contains constraints constraint → lists (roles_meant rules.declared constraint.auth) role ≡ false)

-- Each finding of constraints and their table is right.
abbrev pub FindingsAreRight : Type 0
FindingsAreRight = (constraints : List Constraint) (rules : Rules) (surroundings : Surroundings) → All (IsRight constraints rules surroundings) (findings_of constraints rules (table_of constraints rules) surroundings)

-- A pattern that is the best match of the path of a request decides something.
abbrev pub BestDecides : Type 0
BestDecides = (constraints : List Constraint) (path pattern : List ℕ) → IsServed path → best_pattern (all_patterns constraints) path ≡ Some pattern →
    decides_nothing (all_patterns constraints) pattern ≡ false

-- Whether the finding says that everyone may use the method at the pattern although it is restricted.
abbrev pub says_opened : List ℕ → List ℕ → Finding → Bool
says_opened pattern method (Opened its_pattern methods number other) = bytes_eq its_pattern pattern && covers_method methods method
says_opened pattern method other = false

-- Each method is found that everyone may use at a path of a pattern that requests meet, since a constraint needs no authorization,
-- although a constraint with an authorization constraint covers it.
abbrev pub OpenedIsFound : Type 0
OpenedIsFound = (constraints : List Constraint) (rules : Rules) (surroundings : Surroundings) (pattern method path : List ℕ) → IsMet constraints surroundings pattern → IsRestricted constraints pattern method →
    best_pattern (all_patterns constraints) path ≡ Some pattern → kind_and_cause (verdict constraints rules method path None) ≡ (Passes, cause.Unauthenticated) →
    IsTrue (list_any (says_opened pattern method) (findings_of constraints rules (table_of constraints rules) surroundings))

-- Whether the finding says that the pattern of the constraint with this number decides nothing.
abbrev pub says_dead : ℕ → List ℕ → Finding → Bool
says_dead number pattern (Dead its_number) = its_number == number
says_dead number pattern (DeadPattern its_number its_pattern) = its_number == number && bytes_eq its_pattern pattern
says_dead number pattern other = false

-- Each pattern of a constraint that decides nothing is found.
abbrev pub DeadIsFound : Type 0
DeadIsFound = (constraints : List Constraint) (rules : Rules) (surroundings : Surroundings) (constraint : Constraint) (pattern : List ℕ) → Contains constraints constraint →
    IsTrue (lists (patterns_in constraint) pattern) → IsTrue (decides_nothing (all_patterns constraints) pattern) →
    IsTrue (list_any (says_dead constraint.number pattern) (findings_of constraints rules (table_of constraints rules) surroundings))

-- Whether the finding says that the constraint with this number changes nothing.
abbrev pub says_overruled : ℕ → Finding → Bool
says_overruled number (Overruled its_number) = its_number == number
says_overruled number other = false

-- At each pattern of the constraint that may decide, something holds.
abbrev pub AtEachThatDecides : List Constraint → Constraint → (List ℕ → Type 0) → Type 0
AtEachThatDecides constraints constraint Holds = (pattern : List ℕ) → IsTrue (lists (patterns_in constraint) pattern) → decides_nothing (all_patterns constraints) pattern ≡ false → Holds pattern

-- Each compared constraint is found that has a pattern that may decide, and that changes nothing at all such patterns, if
-- few constraints list them and name few methods there.
abbrev pub OverruledIsFound : Type 0
OverruledIsFound = (constraints : List Constraint) (rules : Rules) (surroundings : Surroundings) (constraint : Constraint) →
    let full = compared surroundings constraints in Contains full constraint → is_dead (all_patterns full) constraint ≡ false →
    AtEachThatDecides full constraint (λ pattern. AreFew full pattern × ChangesNothing full rules constraint pattern) →
    IsTrue (list_any (says_overruled constraint.number) (findings_of constraints rules (table_of constraints rules) surroundings))

-- Each is found without a limit, if no overruled constraints are reported as not looked for.
abbrev pub SearchedIsFound : Type 0
SearchedIsFound = (constraints : List Constraint) (rules : Rules) (surroundings : Surroundings) (constraint : Constraint) → list_any is_overruled_kind (unsearched constraints surroundings) ≡ false →
    let full = compared surroundings constraints in Contains full constraint → is_dead (all_patterns full) constraint ≡ false →
    AtEachThatDecides full constraint (ChangesNothing full rules constraint) →
    IsTrue (list_any (says_overruled constraint.number) (findings_of constraints rules (table_of constraints rules) surroundings))

-- Both decisions let a request pass, need a login, or deny it.
abbrev pub IsSameKind : OwnedDecision → OwnedDecision → Type 0
IsSameKind decision other = (kind_and_cause decision).0 ≡ (kind_and_cause other).0

-- Without the constraints with this number each request is decided alike, with and without transport requirements.
abbrev pub DecideAlikeWithout : List Constraint → Rules → ℕ → Type 0
DecideAlikeWithout constraints rules number = (method path : List ℕ) (caller : Option Caller) → IsServed path →
    IsSameKind (verdict constraints rules method path caller) (verdict (others number constraints) rules method path caller)
    × IsSameKind (verdict (secure constraints) rules method path caller) (verdict (secure (others number constraints)) rules method path caller)

-- Without an overruled constraint each request is decided alike, if no other compared constraint has its number.
abbrev pub OverruledIsRemovable : Type 0
OverruledIsRemovable = (constraints : List Constraint) (rules : Rules) (surroundings : Surroundings) (constraint : Constraint) →
    let full = compared surroundings constraints in Contains full constraint → ((other : Constraint) → Contains full other → other.number ≡ constraint.number → other ≡ constraint) →
    IsTrue (list_any (says_overruled constraint.number) (findings_of constraints rules (table_of constraints rules) surroundings)) → DecideAlikeWithout full rules constraint.number

-- Whether the finding says that the method is uncovered at the pattern.
abbrev pub says_uncovered : List ℕ → List ℕ → Finding → Bool
says_uncovered pattern method (Uncovered its_pattern methods) = bytes_eq its_pattern pattern && covers_method methods method
says_uncovered pattern method other = false

-- Whether the finding says that GET and HEAD differ at the pattern.
abbrev pub says_head : List ℕ → Finding → Bool
says_head pattern (HeadDiffers its_pattern get head) = bytes_eq its_pattern pattern
says_head pattern other = false

-- Unless uncovered methods are denied, each method is found that no constraint covers at a pattern of the
-- constraints that requests meet, if they cover another method there.
abbrev pub UncoveredIsFound : Type 0
UncoveredIsFound = (constraints : List Constraint) (rules : Rules) (surroundings : Surroundings) (pattern method other : List ℕ) → IsMet constraints surroundings pattern → rules.deny_uncovered ≡ false → IsTrue (lists (all_patterns constraints) pattern) →
    IsTrue (is_uncovered constraints pattern method) → is_uncovered constraints pattern other ≡ false → IsTrue (list_any (says_uncovered pattern method) (findings_of constraints rules (table_of constraints rules) surroundings))

-- Each pattern that requests meet is found that is the best match of a path at which some visitor fares differently with
-- GET and with HEAD.
abbrev pub HeadIsFound : Type 0
HeadIsFound = (constraints : List Constraint) (rules : Rules) (surroundings : Surroundings) (pattern path : List ℕ) (visitor : Option Caller) → IsMet constraints surroundings pattern → best_pattern (all_patterns constraints) path ≡ Some pattern →
    FaresDifferently (configuration_of constraints rules surroundings) path visitor →
    IsTrue (list_any (says_head pattern) (findings_of constraints rules (table_of constraints rules) surroundings))

-- Whether the finding says that the method is read otherwise at the pattern.
abbrev pub says_read : List ℕ → List ℕ → Finding → Bool
says_read pattern method (ReadOtherwise its_pattern methods other) = bytes_eq its_pattern pattern && covers_method methods method
says_read pattern method other = false

-- Unless uncovered methods are denied, each method is found that no constraint covers at a prefix pattern of the
-- constraints that requests meet, if a request with it and without a caller does not pass where such a pattern decides that
-- is tried later and matches some canonical path.
abbrev pub ReadingIsFound : Type 0
ReadingIsFound = (constraints : List Constraint) (rules : Rules) (surroundings : Surroundings) (pattern method other : List ℕ) → IsMet constraints surroundings pattern → matches_nothing other ≡ false →
    rules.deny_uncovered ≡ false → IsTrue (lists (all_patterns constraints) pattern) → IsTrue (lists (all_patterns constraints) other) → IsTrue (is_prefix (form pattern)) → IsTrue (is_tried_late other) →
    IsTrue (is_uncovered constraints pattern method) → IsShut constraints rules other method → IsTrue (list_any (says_read pattern method) (findings_of constraints rules (table_of constraints rules) surroundings))

-- Whether the finding says that no request reaches the pattern of the constraint with this number.
abbrev pub says_unreached : ℕ → List ℕ → Finding → Bool
says_unreached number pattern (Unreached its_number its_pattern) = its_number == number && bytes_eq its_pattern pattern
says_unreached number pattern other = false

-- Each pattern of a constraint that no request reaches is found.
abbrev pub UnreachedIsFound : Type 0
UnreachedIsFound = (constraints : List Constraint) (rules : Rules) (surroundings : Surroundings) (constraint : Constraint) (pattern : List ℕ) → Contains constraints constraint →
    IsTrue (lists (patterns_in constraint) pattern) → is_reached surroundings.contexts surroundings.path pattern ≡ false →
    IsTrue (list_any (says_unreached constraint.number pattern) (findings_of constraints rules (table_of constraints rules) surroundings))

-- Whether the finding says that nothing answers at the pattern of the constraint with this number.
abbrev pub says_unserved : ℕ → List ℕ → Finding → Bool
says_unserved number pattern (Unserved its_number its_pattern) = its_number == number && bytes_eq its_pattern pattern
says_unserved number pattern other = false

-- If the files are known, each pattern of a constraint at which nothing answers is found, unless such patterns are reported
-- as not looked for.
abbrev pub UnservedIsFound : Type 0
UnservedIsFound = (constraints : List Constraint) (rules : Rules) (surroundings : Surroundings) (constraint : Constraint) (pattern : List ℕ) (files : List (List ℕ)) → surroundings.files ≡ Some files →
    list_any is_unserved_kind (unsearched constraints surroundings) ≡ false → Contains constraints constraint → IsTrue (lists (patterns_in constraint) pattern) →
    IsTrue (is_unserved surroundings.contexts surroundings.path (all_patterns constraints) surroundings.servlets (reached_files surroundings.contexts surroundings.path files) pattern) →
    IsTrue (list_any (says_unserved constraint.number pattern) (findings_of constraints rules (table_of constraints rules) surroundings))

-- Whether the finding says that the login page needs the path.
abbrev pub says_needed : List ℕ → Finding → Bool
says_needed path (LoginNeeds its_path) = bytes_eq its_path path
says_needed path other = false

-- The target is the path of the reference or, if it is relative, this path in the folder of the page, which is not hidden.
abbrev pub MeansDirectly : Surroundings → LoginPage → List ℕ → List ℕ → Type 0
MeansDirectly surroundings page reference target = (IsTrue (is_absolute reference) × (target ≡ path_part reference))
    ⊎ ((is_absolute reference ≡ false) × (is_protected page.path ≡ false) × (target ≡ target_in surroundings.path (folder_of page.path) (path_part reference)))

-- The login page is known, and refers to a style sheet, a script, a picture or a font of this server.
abbrev pub RefersTo : Surroundings → LoginPage → List ℕ → Type 0
RefersTo surroundings page reference = (surroundings.login_page ≡ Some page) × IsTrue (lists (loaded_references page.text) reference)

-- Each path is found that a reference of the login page means directly, if a request without a caller may not get it.
abbrev pub NeedIsFound : Type 0
NeedIsFound = (constraints : List Constraint) (rules : Rules) (surroundings : Surroundings) (page : LoginPage) (reference target path : List ℕ) → RefersTo surroundings page reference →
    MeansDirectly surroundings page reference target → needed_at surroundings.contexts surroundings.path constraints rules target ≡ Some path →
    IsTrue (list_any (says_needed path) (findings_of constraints rules (table_of constraints rules) surroundings))

-- A GET without a caller leads to a login at this path of a pattern that requests meet.
abbrev pub IsSentToLogin : List Constraint → Rules → Surroundings → List ℕ → List ℕ → Type 0
IsSentToLogin constraints rules surroundings pattern path = (surroundings.has_login ≡ true) × IsMet constraints surroundings pattern × (best_pattern (all_patterns constraints) path ≡ Some pattern)
    × ((kind_and_cause (verdict constraints rules (codes "GET") path None)).0 ≡ NeedsLogin)

-- There are no more folders of such patterns than relative references are resolved against.
abbrev pub AreAllAsked : List Constraint → Rules → Surroundings → Type 0
AreAllAsked constraints rules surroundings = length (all_asked (met_rows constraints surroundings (table_of constraints rules).rows)) ≤ MAX_ASKED_FOLDERS

-- A finding names a path that the reference means, and that a request without a caller may not get.
abbrev pub NamesNeedOf : List Constraint → Rules → Surroundings → LoginPage → List ℕ → Type 0
NamesNeedOf constraints rules surroundings page reference = (path : List ℕ) × (target : List ℕ) × Means constraints rules surroundings page reference target
    × (needed_at surroundings.contexts surroundings.path constraints rules target ≡ Some path) × IsTrue (list_any (says_needed path) (findings_of constraints rules (table_of constraints rules) surroundings))

-- If a GET without a caller leads to a login at a path, each relative reference of the login page has a finding that a
-- request without a caller may not get in the folder of the pattern of this path.
abbrev pub AskedNeedIsFound : Type 0
AskedNeedIsFound = (constraints : List Constraint) (rules : Rules) (surroundings : Surroundings) (page : LoginPage) (reference pattern path needed : List ℕ) → RefersTo surroundings page reference →
    is_absolute reference ≡ false → IsSentToLogin constraints rules surroundings pattern path → AreAllAsked constraints rules surroundings →
    needed_at surroundings.contexts surroundings.path constraints rules (target_in surroundings.path (folder_of_form (form pattern)) (path_part reference)) ≡ Some needed →
    NamesNeedOf constraints rules surroundings page reference
