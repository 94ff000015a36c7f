-- Paths of requests whose best match is a pattern (Jakarta Servlet 6.0, sections 3.5.2, 10.5 and 12.1).
use Rattle.std.specs.Prelude.{◌≡◌, ℕ, Bool, false, not, ◌&&◌, List, [], ◌∷◌, ◌++◌, codes, find, is_none, map, Option, None, Some, Result, Ok, Err, All, IsTrue}
use Rattle.std.specs.List.{list_any}
use Rattle.std.specs.Str.{bytes_eq}
use Rattle.sv_mapping.specs.BestMatch.{best_pattern}
use Rattle.sv_mapping.specs.Pattern.{Form, Root, Default, Extension, Prefix, Exact, form, is_at_or_below}
use Rattle.sv_mapping.specs.Protected.{is_protected}
use Rattle.sv_uri.specs.Canonical.{begins_with_slash, canonical}
use Rattle.sv_uri.specs.LocationField.{location}
use Rattle.sv_uri.specs.declared.fault.PathFault.{PathFault}
use Rattle.sv_uri.specs.declared.path.Canon.{Canon}
use Rattle.sv_audit.specs.Reading.{is_same}

-- Each of the texts between the same two texts.
abbrev pub around : List ℕ → List (List ℕ) → List ℕ → List (List ℕ)
around front middles end = map (λ middle. front ++ middle ++ end) middles

abbrev pub plain_paths : List (List ℕ)
plain_paths = codes "/page" ∷ codes "/page.html" ∷ codes "/a/page" ∷ codes "/b/page" ∷ codes "/index" ∷ codes "/a/b/page" ∷ []

-- The paths of an extension pattern, without the extension.
abbrev pub extension_fronts : List (List ℕ)
extension_fronts = codes "/page." ∷ codes "/a/page." ∷ codes "/b/page." ∷ codes "/index." ∷ codes "/a/b/page." ∷ []

-- The paths of a prefix pattern, without the prefix; the last is the prefix itself.
abbrev pub prefix_ends : List (List ℕ)
prefix_ends = codes "/page" ∷ codes "/page.html" ∷ codes "/" ∷ codes "/b/page" ∷ codes "/index" ∷ [] ∷ []

-- The paths to try for a pattern, or for the paths that no pattern matches.
abbrev pub candidates_of : Form → List (List ℕ)
candidates_of Root = codes "/" ∷ []
candidates_of Default = plain_paths
candidates_of (Extension wanted) = around [] extension_fronts wanted
candidates_of (Prefix prefix) = around prefix prefix_ends []
candidates_of (Exact text) = text ∷ []

abbrev pub candidates : Option (List ℕ) → List (List ℕ)
candidates None = plain_paths
candidates (Some pattern) = candidates_of (form pattern)

abbrev pub gives_only : List ℕ → Result Canon PathFault → Bool
gives_only path (Ok canon) = bytes_eq canon.path path && is_none canon.query
gives_only path (Err fault) = false

-- Whether reading the location of the path gives the same path, without a query.
unfoldable pub is_read_back : List ℕ → Bool
is_read_back path = gives_only path (canonical (location path))

-- Whether another context takes the path, given the paths of the other contexts within this one (section 12.1).
abbrev pub is_elsewhere : List (List ℕ) → List ℕ → Bool
is_elsewhere others path = list_any (λ other. is_at_or_below other path) others

-- Whether the location of the path leads to it, in this context and in no hidden folder (section 10.5), and the pattern is
-- its best match, or there is none.
abbrev pub is_example : List (List ℕ) → List (List ℕ) → Option (List ℕ) → List ℕ → Bool
is_example patterns others pattern path = is_read_back path && not (is_elsewhere others path) && not (is_protected path) && is_same pattern (best_pattern patterns path)

-- The first such path of those to try.
abbrev pub example : List (List ℕ) → List (List ℕ) → Option (List ℕ) → Option (List ℕ)
example patterns others pattern = find (is_example patterns others pattern) (candidates pattern)

-- The location of an example leads to it. It begins with a slash, none of the other contexts takes it, it is in no hidden
-- folder, and its best match is the pattern.
abbrev pub ExamplesAreRight : Type 0
ExamplesAreRight = (patterns others : List (List ℕ)) (pattern : Option (List ℕ)) (path : List ℕ) → example patterns others pattern ≡ Some path →
    (canonical (location path) ≡ Ok (record { path = path; query = None })) × (best_pattern patterns path ≡ pattern) × IsTrue (begins_with_slash path)
    × All (λ other. is_at_or_below other path ≡ false) others × (is_protected path ≡ false)

-- The canonical path of any target is such a path: none that a request can have is left out for its bytes.
abbrev pub CanonicalIsReadBack : Type 0
CanonicalIsReadBack = (target : List ℕ) (canon : Canon) → canonical target ≡ Ok canon → IsTrue (is_read_back canon.path)
