-- The static files of a context, and the fault of a list that is refused.
use Rattle.std.specs.Prelude.{ℕ, List, Option, None, Result, Ok, Err}
use Rattle.sv_files.specs.Fault.{bad_path, files_of, large_path}
use Rattle.sv_files.specs.declared.fault.FilesFault.{FilesFault}
use Rattle.sv_files.specs.declared.fault.FilesFault.TheVariants.{BadPath, Duplicate, TooMany, TooLarge, NoMemory}
use Rattle.sv_files.specs.declared.files.File.{File}
use Rattle.sv_program.specs.Configuration.{Step}
use Rattle.sv_program.specs.declared.command_fault.CommandFault.{CommandFault}
use Rattle.sv_program.specs.declared.command_fault.CommandFault.TheVariants as fault

-- the path of the file that has the fault, of the first one with a bad path and the first that is too large
abbrev pub path_for : Option (List ℕ) → Option (List ℕ) → FilesFault → Option (List ℕ)
path_for bad large BadPath = bad
path_for bad large Duplicate = None
path_for bad large TooMany = None
path_for bad large TooLarge = large
path_for bad large NoMemory = None

-- the fault of the context at this path
abbrev pub refusal : List ℕ → Option (List ℕ) → Option (List ℕ) → FilesFault → CommandFault
refusal path bad large found = fault.Files path found (path_for bad large found)

-- the files that may be served, or the fault of the list, in the context at this path
abbrev pub told : List ℕ → List File → Result (List File) FilesFault → Step (List File)
told path list (Ok files) = Ok files
told path list (Err found) = Err (refusal path (bad_path list) (large_path list) found)

-- the files of the list that may be served in the context at this path, or the fault of the list
abbrev pub served_files : List ℕ → List File → Step (List File)
served_files path list = told path list (files_of list)
