-- The index of the files.
use Rattle.std.specs.Prelude.{◌≡◌, ℕ, List, position}
use Rattle.std.specs.HashMap.{get_by_text}
use Rattle.std.specs.HashSet.{contains_text}
use Rattle.std.specs.Str.{bytes_eq}
use Rattle.sv_files.specs.Files.{is_folder}
use Rattle.sv_files.specs.declared.files.File.{File}
use Rattle.sv_files.specs.declared.index.Index.{Index}

-- The index has exactly the paths of files, each with its position, and the paths of folders.
pub record IsIndexOf (index : Index) (files : List File) : Type 0 where
  pub places : (path : List ℕ) → get_by_text index.places path ≡ position (λ file. bytes_eq file.path path) files
  pub folders : (path : List ℕ) → contains_text index.folders path ≡ is_folder files path
