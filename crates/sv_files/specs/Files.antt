-- The static files of a context: Jakarta Servlet 6.0, sections 3.5 (their paths) and 10.10 (welcome files).
use Rattle.std.specs.Prelude.{ℕ, Bool, false, not, ◌&&◌, nat_eq, List, ◌++◌, codes, find, map, Option, Result, Ok, Err}
use Rattle.std.specs.List.{list_any, ends_with}
use Rattle.std.specs.Option.{option_map}
use Rattle.std.specs.Str.{bytes_eq}
use Rattle.sv_mapping.specs.Pattern.{matches}
use Rattle.sv_uri.specs.Canonical.{canonical}
use Rattle.sv_uri.specs.LocationField.{location}
use Rattle.sv_uri.specs.declared.fault.PathFault.{PathFault}
use Rattle.sv_uri.specs.declared.path.Canon.{Canon}
use Rattle.sv_files.specs.Below.{lies_below}
use Rattle.sv_files.specs.declared.files.File.{File}

abbrev pub ends_in_slash : List ℕ → Bool
ends_in_slash path = ends_with nat_eq path (codes "/")

-- The target was read as this path.
abbrev pub is_read_as : List ℕ → Result Canon PathFault → Bool
is_read_as path (Ok canon) = bytes_eq canon.path path
is_read_as path (Err fault) = false

-- A request for the path's location names this path.
unfoldable pub is_canonical : List ℕ → Bool
is_canonical path = is_read_as path (canonical (location path))

-- The path of a file: a request can name it, and it is not a folder's.
unfoldable pub is_file_path : List ℕ → Bool
is_file_path path = is_canonical path && not (ends_in_slash path)

-- The bytes of the file of this path.
abbrev pub file_at : List File → List ℕ → Option (List ℕ)
file_at files path = option_map (λ file. file.bytes) (find (λ file. bytes_eq file.path path) files)

abbrev pub is_file : List File → List ℕ → Bool
is_file files path = list_any (λ file. bytes_eq file.path path) files

-- A file is below the path.
abbrev pub is_folder : List File → List ℕ → Bool
is_folder files path = list_any (λ file. lies_below path file.path) files

-- A servlet's pattern matches the path, other than the default pattern, which belongs to the file servlet.
abbrev pub is_served : List (List ℕ) → List ℕ → Bool
is_served patterns path = list_any (λ pattern. not (bytes_eq pattern (codes "/")) && matches pattern path) patterns

-- The names of welcome files, appended to a folder's path.
abbrev pub welcome_paths : List (List ℕ) → List ℕ → List (List ℕ)
welcome_paths names path = map (λ name. path ++ name) names
