-- Whether requests reach a pattern of a context (Jakarta Servlet 6.0, sections 10.5, 12.1 and 12.2).
use Rattle.std.specs.Prelude.{◌≡◌, ℕ, true, Bool, false, nat_lt, List, ◌++◌, length, codes, find, Option, None, Some, IsTrue, if◌then◌else◌}
use Rattle.std.specs.Option.{option_map_or}
use Rattle.std.specs.Str.{bytes_eq}
use Rattle.sv_mapping.specs.Chosen.{is_chosen}
use Rattle.sv_mapping.specs.Pattern.{Form, Root, Default, Extension, Prefix, Exact, form, is_at_or_below, matches}
use Rattle.sv_mapping.specs.Protected.{is_protected}
use Rattle.sv_mapping.specs.Within.{path_within}
use Rattle.sv_findings.specs.declared.reach.Reach.{Reach}
use Rattle.sv_findings.specs.declared.reach.Reach.TheVariants.{Reached, Hidden, Elsewhere, Unmatched}

-- The text, unless it is that of the root.
abbrev pub unless_root : List ℕ → Option (List ℕ)
unless_root text = if bytes_eq text (codes "/") then None else Some text

-- The front of all paths of a pattern, unless it matches paths everywhere, or the root of the context.
abbrev pub front_of : Form → Option (List ℕ)
front_of Root = None
front_of Default = None
front_of (Extension wanted) = None
front_of (Prefix prefix) = unless_root prefix
front_of (Exact text) = unless_root text

-- The context path that is chosen for a path (section 12.1).
abbrev pub chosen_path : List (List ℕ) → List ℕ → Option (List ℕ)
chosen_path contexts path = find (is_chosen contexts path) contexts

-- Whether the context serves a target with this canonical path.
abbrev pub serves : List (List ℕ) → List ℕ → List ℕ → Bool
serves contexts context path = option_map_or (λ chosen. bytes_eq chosen context) (chosen_path contexts path) false

-- The paths belong to the context. They are hidden if their front is (section 10.5).
abbrev pub own_reach : List ℕ → Reach
own_reach front = if is_protected front then Hidden else Reached

-- A longer context path that is chosen for the front takes all paths.
abbrev pub reach_against : List ℕ → List ℕ → List ℕ → Reach
reach_against context front chosen = if nat_lt (length context) (length chosen) then Elsewhere chosen else own_reach front

abbrev pub reach_below : List (List ℕ) → List ℕ → List ℕ → Reach
reach_below contexts context front = option_map_or (reach_against context front) (chosen_path contexts (context ++ front)) (own_reach front)

-- Whether requests reach a pattern of the context with this path, given the paths of all contexts.
abbrev pub reach_of : List (List ℕ) → List ℕ → List ℕ → Reach
reach_of contexts context pattern = option_map_or (reach_below contexts context) (front_of (form pattern)) Reached

-- Whether some requests may reach a pattern of this reach, or a pattern of the context with this path.
abbrev pub has_requests : Reach → Bool
has_requests Reached = true
has_requests Hidden = false
has_requests (Elsewhere context) = false
has_requests Unmatched = false

abbrev pub is_reached : List (List ℕ) → List ℕ → List ℕ → Bool
is_reached contexts context pattern = has_requests (reach_of contexts context pattern)

-- Each path of a hidden pattern is protected.
abbrev pub HiddenIsProtected : Type 0
HiddenIsProtected = (contexts : List (List ℕ)) (context pattern path : List ℕ) → reach_of contexts context pattern ≡ Hidden → IsTrue (matches pattern path) → IsTrue (is_protected path)

-- The context of a target is another one if its path within this one is a path of a pattern that is elsewhere.
abbrev pub ElsewhereIsForeign : Type 0
ElsewhereIsForeign = (contexts : List (List ℕ)) (context pattern path other : List ℕ) → reach_of contexts context pattern ≡ Elsewhere other → IsTrue (is_at_or_below context path) →
    IsTrue (matches pattern (path_within context path)) → is_chosen contexts path context ≡ false

-- If the context serves a target, and its path is not protected, each pattern that matches the path is reached.
abbrev pub ServedIsReached : Type 0
ServedIsReached = (contexts : List (List ℕ)) (context pattern path : List ℕ) → IsTrue (is_chosen contexts path context) → is_protected (path_within context path) ≡ false →
    IsTrue (matches pattern (path_within context path)) → reach_of contexts context pattern ≡ Reached
