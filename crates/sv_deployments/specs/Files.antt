-- The static files of a context, from the contents of its folder.
use Rattle.std.specs.Prelude.{ℕ, List, [], ◌∷◌, Ok, Err}
use Rattle.sv_text.specs.Steps.{◌>>=◌}
use Rattle.sv_files.specs.declared.files.File.{File}
use Rattle.sv_descriptor.specs.declared.server.ContextEntry.{ContextEntry}
use Rattle.sv_program.specs.Configuration.{Step}
use Rattle.sv_program.specs.declared.command_fault.CommandFault.TheVariants as fault
use Rattle.sv_deployments.specs.FilesFault.{served_files}
use Rattle.sv_deployments.specs.Folders.{FolderFiles}

-- the files in the folder of this name; none if the name is empty
abbrev pub listed_files : List ℕ → FolderFiles → Step (List File)
listed_files [] found = Ok []
listed_files (first ∷ rest) (Ok files) = Ok files
listed_files (first ∷ rest) (Err entry) = Err (fault.Folder (first ∷ rest) entry)

abbrev pub files_in : ContextEntry → FolderFiles → Step (List File)
files_in context files = do
  listed ← listed_files context.files files
  served_files context.path listed
