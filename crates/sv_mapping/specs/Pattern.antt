-- URL patterns: the texts that are patterns, and the paths that each matches (Jakarta Servlet 6.0, sections 12.1 and
-- 12.2).
use Rattle.std.specs.Prelude.{ℕ, ◌-◌, Bool, true, false, ◌||◌, ◌&&◌, not, nat_eq, nat_le, ◌==◌, List, [], ◌++◌, length, take, drop, codes, if◌then◌else◌, Option, Some, None}
use Rattle.std.specs.List.{starts_with, ends_with, list_any, after_last}
use Rattle.std.specs.Option.{option_map_or}
use Rattle.std.specs.Str.{bytes_eq}
use Rattle.sv_mapping.specs.declared.pattern.TheConstants.{MAX_PATTERN_BYTES}

abbrev pub is_slash : ℕ → Bool
is_slash b = b == 47

abbrev pub is_dot : ℕ → Bool
is_dot b = b == 46

-- The empty text, or one that begins with a slash.
abbrev pub is_path_pattern : List ℕ → Bool
is_path_pattern text = bytes_eq text [] || starts_with nat_eq text (codes "/")

-- `*.` and a text without a slash.
abbrev pub is_extension_pattern : List ℕ → Bool
is_extension_pattern text = starts_with nat_eq text (codes "*.") && not (list_any is_slash text)

-- The accepted texts.
abbrev pub is_pattern : List ℕ → Bool
is_pattern text = nat_le (length text) MAX_PATTERN_BYTES && (is_path_pattern text || is_extension_pattern text)

-- The forms of section 12.2: the context root `""`, the default `/`, `*.EXTENSION` and `PREFIX/*`. All others are
-- exact.
pub data Form : Type 0 where
  Root : Form
  Default : Form
  Extension : List ℕ → Form
  Prefix : List ℕ → Form
  Exact : List ℕ → Form

-- The form of an accepted text.
unfoldable pub form : List ℕ → Form
form text =
    if bytes_eq text [] then Root
    else if bytes_eq text (codes "/") then Default
    else if starts_with nat_eq text (codes "*.") then Extension (drop 2 text)
    else if ends_with nat_eq text (codes "/*") then Prefix (take (length text - 2) text)
    else Exact text

-- The text that has this form.
abbrev pub form_text : Form → List ℕ
form_text Root = []
form_text Default = codes "/"
form_text (Extension wanted) = codes "*." ++ wanted
form_text (Prefix prefix) = prefix ++ codes "/*"
form_text (Exact text) = text

-- The path is the prefix or lies below it.
abbrev pub is_at_or_below : List ℕ → List ℕ → Bool
is_at_or_below prefix path = bytes_eq path prefix || starts_with nat_eq path (prefix ++ codes "/")

abbrev pub last_segment : List ℕ → List ℕ
last_segment path = after_last is_slash path

-- The text after the last dot of the last segment, if it has one.
abbrev pub extension : List ℕ → Option (List ℕ)
extension path = if list_any is_dot (last_segment path) then Some (after_last is_dot (last_segment path)) else None

abbrev pub has_extension : List ℕ → List ℕ → Bool
has_extension wanted path = option_map_or (λ found. bytes_eq found wanted) (extension path) false

-- Whether a form matches a path. All texts are compared with case.
abbrev pub form_matches : Form → List ℕ → Bool
form_matches Root path = bytes_eq path (codes "/")
form_matches Default path = true
form_matches (Extension wanted) path = has_extension wanted path
form_matches (Prefix prefix) path = is_at_or_below prefix path
form_matches (Exact text) path = bytes_eq path text

abbrev pub matches : List ℕ → List ℕ → Bool
matches pattern path = form_matches (form pattern) path
