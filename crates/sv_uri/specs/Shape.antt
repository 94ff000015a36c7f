-- The shape of a canonical path: Jakarta Servlet 6.0, section 3.5.2; RFC 3986, section 5.2.4.
use Rattle.std.specs.Prelude.{ℕ, ◌≡◌, ◌-◌, Bool, not, ◌||◌, ◌==◌, List, length, take, Ok, IsTrue, IsUtf8}
use Rattle.std.specs.List.{AllPass}
use Rattle.std.specs.Str.{byte}
use Rattle.sv_uri.specs.declared.path.Canon.{Canon}
use Rattle.sv_uri.specs.Target.{segments_of}
use Rattle.sv_uri.specs.Segment.{is_control, is_empty, is_parent, is_same}
use Rattle.sv_uri.specs.Canonical.{begins_with_slash, canonical}

-- All segments but the last.
abbrev pub folders_of : List ℕ → List (List ℕ)
folders_of path = take (length (segments_of path) - 1) (segments_of path)

abbrev pub is_dot_segment : List ℕ → Bool
is_dot_segment segment = is_same segment || is_parent segment

abbrev pub may_stand_in_a_path : ℕ → Bool
may_stand_in_a_path b = not (is_control b || b == byte "\\")

-- A text that begins with a slash, with no empty segment except the last, and no dot segment, control or backslash.
pub record IsCanonicalPath (path : List ℕ) : Type 0 where
  pub text : IsUtf8 path
  pub rooted : IsTrue (begins_with_slash path)
  pub filled : AllPass (λ segment. not (is_empty segment)) (folders_of path)
  pub undotted : AllPass (λ segment. not (is_dot_segment segment)) (segments_of path)
  pub plain : AllPass may_stand_in_a_path path

-- Each canonical path of a target has this shape.
abbrev pub CanonicalHasShape : Type 0
CanonicalHasShape = (target : List ℕ) (canon : Canon) → canonical target ≡ Ok canon → IsCanonicalPath canon.path
