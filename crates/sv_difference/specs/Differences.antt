-- The requests whose fates differ between two sides: access tables with or without a login configuration (Jakarta Servlet 6.0, sections 12.1 and 13.8).
use Rattle.std.specs.Prelude.{ℕ, Bool, true, false, not, ◌&&◌, ◌||◌, List, [], ◌∷◌, ◌++◌, codes, filter, fold, Option, if◌then◌else◌}
use Rattle.std.specs.List.{flat_map, list_any}
use Rattle.std.specs.Option.{option_to_list}
use Rattle.std.specs.Str.{bytes_eq}
use Rattle.sv_mapping.specs.BestMatch.{best_pattern}
use Rattle.sv_mapping.specs.Pattern.{is_pattern}
use Rattle.sv_constraints.specs.Covering.{lists}
use Rattle.sv_constraints.specs.declared.constraint.Methods.{Methods}
use Rattle.sv_constraints.specs.declared.constraint.Methods.TheVariants.{All, Only, Except}
use Rattle.sv_policy.specs.Uncovered.{has_methods}
use Rattle.sv_audit.specs.Callers.{same_callers}
use Rattle.sv_audit.specs.Visitors.{effective, kind_of}
use Rattle.sv_audit.specs.Reading.{is_same}
use Rattle.sv_audit.specs.declared.rows.Group.{Group}
use Rattle.sv_audit.specs.declared.rows.Row.{Row}
use Rattle.sv_audit.specs.declared.access.Access.{Access}
use Rattle.sv_difference.specs.declared.difference.Difference.{Difference}
use Rattle.sv_audit.specs.declared.visitors.DifferenceKind.{DifferenceKind}
use Rattle.sv_audit.specs.declared.visitors.DifferenceKind.TheVariants.{Changed, Closed, Opened}
use Rattle.sv_audit.specs.declared.visitors.Logins.{Logins}
use Rattle.sv_difference.specs.declared.difference.Side.{Side}
use Rattle.sv_difference.specs.declared.meetings.Meeting.{Meeting}

-- The patterns of the rows whose texts are URL patterns.
abbrev pub url_pattern : Row → List (List ℕ)
url_pattern row = filter is_pattern (option_to_list row.pattern)

abbrev pub url_patterns : List Row → List (List ℕ)
url_patterns rows = flat_map url_pattern rows

-- The path within a context of a request, by what follows the context path in its canonical path: `/` if nothing does
-- (section 3.5).
abbrev pub row_path : List ℕ → List ℕ
row_path path = if bytes_eq path [] then codes "/" else path

-- A path with the patterns of its rows in both tables.
abbrev pub meeting_of : List (List ℕ) → List (List ℕ) → List ℕ → Meeting
meeting_of befores afters its_path = record { path = its_path; before = best_pattern befores (row_path its_path); after = best_pattern afters (row_path its_path) }

abbrev pub same_rows : Meeting → Meeting → Bool
same_rows meeting other = is_same meeting.before other.before && is_same meeting.after other.after

-- The meetings and that of one more path, unless its rows have met.
abbrev pub met : List (List ℕ) → List (List ℕ) → List Meeting → List ℕ → List Meeting
met befores afters known path = if list_any (same_rows (meeting_of befores afters path)) known then known else known ++ meeting_of befores afters path ∷ []

-- Each pair of rows that share one of the paths, with the first of these.
abbrev pub meetings : List (List ℕ) → List (List ℕ) → List (List ℕ) → List Meeting
meetings befores afters paths = fold (met befores afters) [] paths

-- The methods that are in both.
abbrev pub meet : Methods → Methods → Methods
meet All others = others
meet (Only names) All = Only names
meet (Only names) (Only others) = Only (filter (lists others) names)
meet (Only names) (Except others) = Only (filter (λ name. not (lists others name)) names)
meet (Except names) All = Except names
meet (Except names) (Only others) = Only (filter (λ name. not (lists names name)) others)
meet (Except names) (Except others) = Except (names ++ filter (λ name. not (lists names name)) others)

-- The groups of the rows with the pattern, or of those without a pattern.
abbrev pub groups_of_row : Option (List ℕ) → Row → List Group
groups_of_row pattern row = if is_same row.pattern pattern then row.groups else []

abbrev pub groups_at : List Row → Option (List ℕ) → List Group
groups_at rows pattern = flat_map (groups_of_row pattern) rows

-- The accesses of groups that visitors meet.
abbrev pub met_before : Logins → Group → Access
met_before logins group = effective logins.before group.cell.access

abbrev pub met_after : Logins → Group → Access
met_after logins group = effective logins.after group.cell.access

abbrev pub difference_of : Logins → Meeting → Group → Group → Difference
difference_of logins meeting first second = record {
  kind = kind_of (met_before logins first) (met_after logins second);
  before = meeting.before;
  after = meeting.after;
  path = meeting.path;
  methods = meet first.methods second.methods;
  was = first.cell.access;
  becomes = second.cell.access;
}

-- The methods of both groups, if there are any and the fate of some visitor differs.
abbrev pub between : Logins → Meeting → Group → Group → List Difference
between logins meeting first second =
    if same_callers (met_before logins first) (met_after logins second) || not (has_methods (meet first.methods second.methods)) then [] else difference_of logins meeting first second ∷ []

abbrev pub differences_at : Logins → List Row → List Row → Meeting → List Difference
differences_at logins befores afters meeting = flat_map (λ first. flat_map (between logins meeting first) (groups_at afters meeting.after)) (groups_at befores meeting.before)

-- Whether visitors can log in on both sides.
abbrev pub logins_of : Side → Side → Logins
logins_of one other = record { before = one.has_login; after = other.has_login }

-- The URL patterns of both tables.
abbrev pub patterns_of : Side → Side → List (List ℕ)
patterns_of one other = url_patterns one.table.rows ++ url_patterns other.table.rows

-- The differences of two sides at these paths, in the order of the pairs of rows.
abbrev pub all_differences : List (List ℕ) → Side → Side → List Difference
all_differences paths one other = flat_map (differences_at (logins_of one other) one.table.rows other.table.rows) (meetings (url_patterns one.table.rows) (url_patterns other.table.rows) paths)

abbrev pub same_kind : DifferenceKind → DifferenceKind → Bool
same_kind Opened Opened = true
same_kind Closed Closed = true
same_kind Changed Changed = true
same_kind kind other = false

abbrev pub of_kind : DifferenceKind → List Difference → List Difference
of_kind kind found = filter (λ difference. same_kind kind difference.kind) found

-- Opened ones first, then closed ones, then changed ones.
abbrev pub by_kind : List Difference → List Difference
by_kind found = of_kind Opened found ++ of_kind Closed found ++ of_kind Changed found

-- The differences of two sides at these paths.
abbrev pub differences : List (List ℕ) → Side → Side → List Difference
differences paths one other = by_kind (all_differences paths one other)
