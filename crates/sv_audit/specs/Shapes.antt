-- Paths of requests, and patterns that match none of them (Jakarta Servlet 6.0, sections 3.5, 3.5.2 and 12.2).
use Rattle.std.specs.Prelude.{◌≡◌, ℕ, Bool, false, not, ◌&&◌, ◌||◌, List, drop, zip, Ok, IsTrue}
use Rattle.std.specs.List.{list_all, list_any}
use Rattle.sv_mapping.specs.Pattern.{Form, Root, Default, Extension, Prefix, Exact, form, is_at_or_below, is_dot, is_slash}
use Rattle.sv_mapping.specs.Segments.{between_slashes}
use Rattle.sv_mapping.specs.Within.{path_within}
use Rattle.sv_uri.specs.Canonical.{canonical}
use Rattle.sv_uri.specs.Shape.{is_dot_segment, may_stand_in_a_path}
use Rattle.sv_uri.specs.declared.path.Canon.{Canon}

-- The path within its context of a request: the canonical path of a target that the context serves (sections 3.5 and
-- 3.5.2).
abbrev pub IsServed : List ℕ → Type 0
IsServed path = (target : List ℕ) × (context : List ℕ) × (canon : Canon) × (canonical target ≡ Ok canon) × IsTrue (is_at_or_below context canon.path) × (path ≡ path_within context canon.path)

-- Whether two slashes enclose an empty segment.
abbrev pub has_empty_folder : List ℕ → Bool
has_empty_folder text = list_any (λ pair. is_slash pair.0 && is_slash pair.1) (zip text (drop 1 text))

abbrev pub has_dot_segment : List ℕ → Bool
has_dot_segment text = list_any is_dot_segment (between_slashes text)

-- Whether no canonical path is the text or lies below it: the text has an empty segment before the last, a segment `.` or
-- `..`, a control or a backslash (section 3.5.2).
abbrev pub is_misshapen : List ℕ → Bool
is_misshapen text = has_empty_folder text || has_dot_segment text || not (list_all may_stand_in_a_path text)

-- Whether no canonical path has the extension: an extension has no dot, no control and no backslash.
abbrev pub is_no_extension : List ℕ → Bool
is_no_extension wanted = list_any is_dot wanted || not (list_all may_stand_in_a_path wanted)

abbrev pub form_matches_nothing : Form → Bool
form_matches_nothing Root = false
form_matches_nothing Default = false
form_matches_nothing (Extension wanted) = is_no_extension wanted
form_matches_nothing (Prefix prefix) = is_misshapen prefix
form_matches_nothing (Exact text) = is_misshapen text

-- Whether the pattern matches no canonical path.
abbrev pub matches_nothing : List ℕ → Bool
matches_nothing pattern = form_matches_nothing (form pattern)
