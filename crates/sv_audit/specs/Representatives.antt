-- Paths that represent all others: each path matches the same patterns as one of them (Jakarta Servlet 6.0, sections 3.5.2, 12.1 and 12.2).
use Rattle.std.specs.Prelude.{◌≡◌, ◌≢◌, ℕ, false, List, [], ◌∷◌, ◌++◌, length, filter, fold, map, max, not, codes, if◌then◌else◌, Option, None, Some, IsTrue}
use Rattle.std.specs.List.{flat_map, repeat}
use Rattle.std.specs.Option.{option_to_list}
use Rattle.sv_mapping.specs.BestMatch.{best_pattern}
use Rattle.sv_mapping.specs.Pattern.{Form, Root, Default, Extension, Prefix, Exact, form, is_at_or_below}
use Rattle.sv_mapping.specs.Protected.{is_protected}
use Rattle.sv_mapping.specs.Segments.{is_rooted, is_slashed}
use Rattle.sv_constraints.specs.Covering.{lists}
use Rattle.sv_audit.specs.Examples.{is_read_back}
use Rattle.sv_audit.specs.Shapes.{has_empty_folder}

-- The path that the pattern names: its only path, or the directory of a prefix pattern.
abbrev pub named_by : Form → Option (List ℕ)
named_by Root = Some (codes "/")
named_by Default = None
named_by (Extension wanted) = None
named_by (Prefix prefix) = Some prefix
named_by (Exact text) = Some text

abbrev pub directory_of : Form → Option (List ℕ)
directory_of Root = None
directory_of Default = None
directory_of (Extension wanted) = None
directory_of (Prefix prefix) = Some prefix
directory_of (Exact text) = None

-- The end of the paths that an extension pattern matches.
abbrev pub ending_of : Form → Option (List ℕ)
ending_of Root = None
ending_of Default = None
ending_of (Extension wanted) = Some (codes "." ++ wanted)
ending_of (Prefix prefix) = None
ending_of (Exact text) = None

abbrev pub named_paths : List (List ℕ) → List (List ℕ)
named_paths patterns = flat_map (λ pattern. option_to_list (named_by (form pattern))) patterns

-- The root, and the directories of the prefix patterns.
abbrev pub directories : List (List ℕ) → List (List ℕ)
directories patterns = [] ∷ flat_map (λ pattern. option_to_list (directory_of (form pattern))) patterns

-- No extension, and those of the extension patterns.
abbrev pub endings : List (List ℕ) → List (List ℕ)
endings patterns = [] ∷ flat_map (λ pattern. option_to_list (ending_of (form pattern))) patterns

abbrev pub longest : List (List ℕ) → ℕ
longest texts = fold (λ most text. max most (length text)) 0 texts

-- A name as long as the longest of the paths, so that no path that ends in it is among them.
abbrev pub long_name : List (List ℕ) → List ℕ
long_name paths = repeat (longest paths) (codes "x")

-- The path of a file in a directory.
abbrev pub file_path : List ℕ → List ℕ → List ℕ → List ℕ
file_path directory name ending = directory ++ codes "/" ++ name ++ ending

-- A path right below the directory, with the ending, that is none of the named paths.
abbrev pub free_path : List (List ℕ) → List ℕ → List ℕ → List ℕ
free_path named directory ending =
    let short = file_path directory (codes "page") ending in
    if lists named short then file_path directory (long_name named) ending else short

abbrev pub free_paths : List (List ℕ) → List (List ℕ) → List (List ℕ) → List (List ℕ)
free_paths named its_endings its_directories = flat_map (λ directory. map (free_path named directory) its_endings) its_directories

-- A path for each directory and extension that is none of the taken paths, and the paths that patterns name.
abbrev pub slashed_paths : List (List ℕ) → List (List ℕ) → List (List ℕ)
slashed_paths taken patterns = filter is_slashed (free_paths (named_paths patterns ++ taken) (endings patterns) (directories patterns) ++ named_paths patterns)

-- The paths that represent all others, beside paths that are taken. Those that no canonical path has, since they have an
-- empty segment before the last (section 3.5.2), come last.
abbrev pub representatives_beside : List (List ℕ) → List (List ℕ) → List (List ℕ)
representatives_beside taken patterns = filter (λ path. not (has_empty_folder path)) (slashed_paths taken patterns) ++ filter has_empty_folder (slashed_paths taken patterns)

abbrev pub representatives : List (List ℕ) → List (List ℕ)
representatives patterns = representatives_beside [] patterns

-- Each path that is empty or begins with a slash has a representative with the same best match, among all of the
-- patterns and among any part of them.
abbrev pub EachPathIsRepresented : Type 0
EachPathIsRepresented = (patterns : List (List ℕ)) (path : List ℕ) → IsTrue (is_rooted path) → (representative : List ℕ) × IsTrue (lists (representatives patterns) representative)
    × ((part : List (List ℕ)) → ((text : List ℕ) → IsTrue (lists part text) → IsTrue (lists patterns text)) → best_pattern part representative ≡ best_pattern part path)

-- What a representative has in common with its path.
pub record Resembles (representative path : List ℕ) : Type 0 where
  -- It is in no other folder.
  pub below : (folder : List ℕ) → IsTrue (is_at_or_below folder representative) → folder ≢ representative → IsTrue (is_at_or_below folder path)
  -- It is in a hidden folder only if the path is (section 10.5).
  pub shown : is_protected path ≡ false → is_protected representative ≡ false
  -- In each context, requests can have it if they can have the path (section 3.5.2).
  pub read_back : (context : List ℕ) → IsTrue (is_read_back (context ++ path)) → IsTrue (is_read_back (context ++ representative))

-- Each path that begins with a slash resembles a representative with the same best match, which is the path itself or none
-- of the taken paths.
abbrev pub EachPathIsResembled : Type 0
EachPathIsResembled = (taken patterns : List (List ℕ)) (path : List ℕ) → IsTrue (is_slashed path) → (representative : List ℕ) × IsTrue (lists (representatives_beside taken patterns) representative)
    × ((part : List (List ℕ)) → ((text : List ℕ) → IsTrue (lists part text) → IsTrue (lists patterns text)) → best_pattern part representative ≡ best_pattern part path)
    × Resembles representative path × (IsTrue (lists taken representative) → representative ≡ path)
