-- What the login page refers to, and a request without a caller may not get. The page answers a request that needs a login by
-- a forward, so a browser resolves its relative references against the path that it asked for (Jakarta Servlet 6.0, section
-- 13.6.3; RFC 3986, section 5).
use Rattle.std.specs.Prelude.{ℕ, suc, ◌-◌, Bool, true, false, not, ◌&&◌, ◌||◌, ◌==◌, nat_eq, List, [], ◌∷◌, ◌++◌, length, take, codes, filter, map, Option, None, Some, Result, Ok, Err, if◌then◌else◌}
use Rattle.std.specs.List.{before_first, ends_with, flat_map, list_any, slice_split, starts_with}
use Rattle.std.specs.Option.{option_map_or, option_or, option_to_list}
use Rattle.std.specs.Str.{bytes_eq, str_eq_ignore_ascii_case}
use Rattle.sv_constraints.specs.Verdict.{verdict}
use Rattle.sv_constraints.specs.declared.cause.Cause.{Cause}
use Rattle.sv_constraints.specs.declared.cause.Cause.TheVariants as cause
use Rattle.sv_constraints.specs.declared.constraint.Constraint.{Constraint}
use Rattle.sv_constraints.specs.declared.constraint.Rules.{Rules}
use Rattle.sv_constraints.specs.declared.owned_decision.OwnedDecision.{OwnedDecision}
use Rattle.sv_constraints.specs.declared.owned_decision.OwnedDecision.TheVariants.{Open, Login, Denied}
use Rattle.sv_mapping.specs.Protected.{is_protected}
use Rattle.sv_mapping.specs.Pattern.{Form, Root, Default, Extension, Prefix, Exact, extension, form, is_at_or_below, last_segment}
use Rattle.sv_mapping.specs.Within.{path_within}
use Rattle.sv_policy.specs.Patterns.{different}
use Rattle.sv_uri.specs.Canonical.{canonical}
use Rattle.sv_uri.specs.LocationField.{location}
use Rattle.sv_uri.specs.declared.fault.PathFault.{PathFault}
use Rattle.sv_uri.specs.declared.fault.PathFault.TheVariants.{Climbs}
use Rattle.sv_uri.specs.declared.path.Canon.{Canon}
use Rattle.sv_audit.specs.Callers.{has_method}
use Rattle.sv_audit.specs.Visitors.{needs_login}
use Rattle.sv_audit.specs.declared.rows.Group.{Group}
use Rattle.sv_audit.specs.declared.rows.Row.{Row}
use Rattle.sv_findings.specs.Reach.{serves}
use Rattle.sv_findings.specs.declared.finding.Finding.{Finding}
use Rattle.sv_findings.specs.declared.finding.Finding.TheVariants as finding
use Rattle.sv_findings.specs.declared.asked_folders.TheConstants.{MAX_ASKED_FOLDERS}
use Rattle.sv_findings.specs.declared.login_needs.TheConstants.{LOADED_ENDINGS}
use Rattle.sv_findings.specs.declared.surroundings.LoginPage.{LoginPage}

abbrev pub is_double : ℕ → Bool
is_double b = b == 34

abbrev pub is_single : ℕ → Bool
is_single b = b == 39

-- The parts of a text between its quotation marks.
abbrev pub parts : List ℕ → List (List ℕ)
parts text = flat_map (slice_split is_single) (slice_split is_double text)

-- The part is a reference if the part before it ends with the name of such an attribute.
abbrev pub reference_if : List ℕ → List ℕ → List (List ℕ)
reference_if before part = if ends_with nat_eq before (codes "src=") || ends_with nat_eq before (codes "href=") then part ∷ [] else []

-- The references among parts that follow this one.
abbrev pub references_after : List ℕ → List (List ℕ) → List (List ℕ)
references_after before [] = []
references_after before (part ∷ rest) = reference_if before part ++ references_after part rest

abbrev pub is_hash : ℕ → Bool
is_hash b = b == 35

abbrev pub is_question : ℕ → Bool
is_question b = b == 63

-- A reference without its query and its fragment (RFC 3986, section 4.1).
abbrev pub path_part : List ℕ → List ℕ
path_part reference = before_first is_question (before_first is_hash reference)

abbrev pub is_loaded_ending : List ℕ → Bool
is_loaded_ending found = list_any (λ ending. str_eq_ignore_ascii_case found ending.now) LOADED_ENDINGS

abbrev pub has_loaded_ending : List ℕ → Bool
has_loaded_ending path = option_map_or is_loaded_ending (extension path) false

-- Whether the reference is to this server: it has no scheme and no authority.
abbrev pub is_own : List ℕ → Bool
is_own reference = not (starts_with nat_eq reference (codes "//")) && not (list_any (λ b. b == 58) reference)

-- Whether the reference is a template, with a part that is put in when the page is made.
abbrev pub is_template : List ℕ → Bool
is_template reference = list_any (λ b. b == 60) reference || list_any (λ b. b == 123) reference

-- Whether the reference is to a style sheet, a script, a picture or a font of this server.
abbrev pub is_loaded : List ℕ → Bool
is_loaded reference = is_own reference && not (is_template reference) && has_loaded_ending (path_part reference)

-- ---- The folders against which relative references are resolved.
-- The folder of a path, without the slash at its end: empty for the topmost folder.
abbrev pub folder_of : List ℕ → List ℕ
folder_of path = take (length path - suc (length (last_segment path))) path

-- The folder of the paths of a pattern. Patterns that match paths in many folders have the topmost one.
abbrev pub folder_of_form : Form → List ℕ
folder_of_form Root = []
folder_of_form Default = []
folder_of_form (Extension wanted) = []
folder_of_form (Prefix prefix) = prefix
folder_of_form (Exact text) = folder_of text

-- Whether a GET without a caller needs a login, by this group of a row.
abbrev pub is_asked : Group → Bool
is_asked group = has_method (codes "GET") group && needs_login group.cell.access

-- The folder of a row at which a GET without a caller needs a login.
abbrev pub asked_at : Option (List ℕ) → List Group → List (List ℕ)
asked_at None groups = []
asked_at (Some pattern) groups = if list_any is_asked groups then folder_of_form (form pattern) ∷ [] else []

-- The folders of rows at which a GET without a caller needs a login, each once.
abbrev pub all_asked : List Row → List (List ℕ)
all_asked rows = different (flat_map (λ row. asked_at row.pattern row.groups) rows)

-- The first of them. There are none without a login configuration: nobody is sent to a login.
abbrev pub asked_folders : Bool → List Row → List (List ℕ)
asked_folders has_login rows = if has_login then take MAX_ASKED_FOLDERS (all_asked rows) else []

-- The folders against which a browser resolves a relative reference of the page: that of the page, unless it is hidden
-- (section 10.5), and those of paths at which the page is the answer.
abbrev pub base_folders : List ℕ → List (List ℕ) → List (List ℕ)
base_folders page asked = (if is_protected page then [] else folder_of page ∷ []) ++ asked

-- ---- What a request without a caller may not get.
-- Whether the reason is another one than the connection.
abbrev pub is_other : Cause → Bool
is_other cause.Transport = false
is_other other = true

-- Whether the decision is no, and for another reason than the connection.
abbrev pub bars : OwnedDecision → Bool
bars (Open why) = false
bars (Login why) = true
bars (Denied why) = is_other why.cause

abbrev pub is_barred : List Constraint → Rules → List ℕ → Bool
is_barred constraints rules path = bars (verdict constraints rules (codes "GET") path None)

-- The path within the context, if the context serves it, it is in no hidden folder (section 10.5), and a request without
-- a caller may not get it.
abbrev pub needed_path : List (List ℕ) → List ℕ → List Constraint → Rules → List ℕ → Option (List ℕ)
needed_path contexts context constraints rules path =
    if is_at_or_below context path && serves contexts context path && not (is_protected (path_within context path)) && is_barred constraints rules (path_within context path) then Some (path_within context path) else None

abbrev pub needed_of : List (List ℕ) → List ℕ → List Constraint → Rules → Result Canon PathFault → Option (List ℕ)
needed_of contexts context constraints rules (Ok canon) = needed_path contexts context constraints rules canon.path
needed_of contexts context constraints rules (Err fault) = None

abbrev pub needed_at : List (List ℕ) → List ℕ → List Constraint → Rules → List ℕ → Option (List ℕ)
needed_at contexts context constraints rules target = needed_of contexts context constraints rules (canonical target)

-- Whether the reference has the path of a target.
abbrev pub is_absolute : List ℕ → Bool
is_absolute reference = starts_with nat_eq reference (codes "/")

-- The target of a relative path in a folder of the context. The path of the folder is written with escapes, the reference
-- has its own.
abbrev pub in_folder : List ℕ → List ℕ → List ℕ → List ℕ
in_folder context folder relative = location (context ++ folder) ++ codes "/" ++ relative

abbrev pub is_climb : PathFault → Bool
is_climb Climbs = true
is_climb fault = false

-- Whether a target leads above the topmost folder of the server.
abbrev pub climbs : Result Canon PathFault → Bool
climbs (Ok canon) = false
climbs (Err fault) = is_climb fault

-- A relative path without the parts `..` at its front.
abbrev pub without_parents : List ℕ → List ℕ
without_parents (a ∷ b ∷ c ∷ rest) = if bytes_eq (a ∷ b ∷ c ∷ []) (codes "../") then without_parents rest else a ∷ b ∷ c ∷ rest
without_parents relative = relative

-- The target that a browser asks for: parts `..` that lead above the topmost folder are dropped there (RFC 3986, section
-- 5.2.4).
abbrev pub target_in : List ℕ → List ℕ → List ℕ → List ℕ
target_in context folder relative = if climbs (canonical (in_folder context folder relative)) then codes "/" ++ without_parents relative else in_folder context folder relative

-- The first path that a function gives.
abbrev pub first_given : (List ℕ → Option (List ℕ)) → List (List ℕ) → Option (List ℕ)
first_given given [] = None
first_given given (folder ∷ folders) = option_or (given folder) (first_given given folders)

-- The path that a reference needs: a relative one in the first of the folders in which a request without a caller may not
-- get it.
abbrev pub needed_by : List (List ℕ) → List ℕ → List Constraint → Rules → List (List ℕ) → List ℕ → Option (List ℕ)
needed_by contexts context constraints rules folders reference =
    if is_absolute reference then needed_at contexts context constraints rules (path_part reference)
    else first_given (λ folder. needed_at contexts context constraints rules (target_in context folder (path_part reference))) folders

-- The references of a page to style sheets, scripts, pictures and fonts of this server.
abbrev pub loaded_references : List ℕ → List (List ℕ)
loaded_references text = filter is_loaded (references_after [] (parts text))

abbrev pub needed_paths : List (List ℕ) → List ℕ → List Constraint → Rules → List (List ℕ) → List ℕ → List (List ℕ)
needed_paths contexts context constraints rules folders text =
    flat_map (λ reference. option_to_list (needed_by contexts context constraints rules folders reference)) (loaded_references text)

-- What the login page needs and a request without a caller may not get, each path once, given whether there is a login
-- configuration, and the rows that requests meet.
abbrev pub needs_of : List (List ℕ) → List ℕ → List Constraint → Rules → List (List ℕ) → LoginPage → List Finding
needs_of contexts context constraints rules asked page =
    map finding.LoginNeeds (different (needed_paths contexts context constraints rules (base_folders page.path asked) page.text))

abbrev pub login_needs : List (List ℕ) → List ℕ → List Constraint → Rules → Bool → List Row → Option LoginPage → List Finding
login_needs contexts context constraints rules has_login met page = option_map_or (needs_of contexts context constraints rules (asked_folders has_login met)) page []
