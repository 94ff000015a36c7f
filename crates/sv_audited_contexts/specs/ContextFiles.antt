-- The static files of a context, as an audit uses them (Jakarta Servlet 6.0, sections 10.10 and 13.6.3).
use Rattle.std.specs.Prelude.{ℕ, Bool, true, false, List, [], ◌∷◌, map, Option, None, Some, option_and_then, Result, Ok, Err}
use Rattle.std.specs.Option.{option_map}
use Rattle.sv_text.specs.Steps.{◌>>=◌}
use Rattle.sv_deployments.specs.Folders.{FolderFiles}
use Rattle.sv_descriptor.specs.declared.login.FormLogin.{FormLogin}
use Rattle.sv_files.specs.Files.{file_at}
use Rattle.sv_files.specs.declared.files.File.{File}
use Rattle.sv_findings.specs.declared.surroundings.LoginPage.{LoginPage}
use Rattle.sv_program.specs.Configuration.{Step}
use Rattle.sv_program.specs.FileLine.{text_of}
use Rattle.sv_program.specs.declared.command_fault.CommandFault.TheVariants as fault
use Rattle.sv_uri.specs.Canonical.{canonical}
use Rattle.sv_uri.specs.declared.fault.PathFault.{PathFault}
use Rattle.sv_uri.specs.declared.path.Canon.{Canon}
use Rattle.sv_audited_contexts.specs.declared.context_files.ContextFiles.{ContextFiles}

-- The files of a context without a folder, which may have files that are not known, or has none.
abbrev pub files_without_folder : Bool → Option (List File)
files_without_folder true = None
files_without_folder false = Some []

-- The files in the folder of this name, or what of it is not available. An empty name means no folder.
abbrev pub audited_files : Bool → List ℕ → FolderFiles → Step (Option (List File))
audited_files has_unknown [] found = Ok (files_without_folder has_unknown)
audited_files has_unknown (first ∷ rest) (Ok files) = Ok (Some files)
audited_files has_unknown (first ∷ rest) (Err entry) = Err (fault.Folder (first ∷ rest) entry)

abbrev pub paths_of : List File → List (List ℕ)
paths_of files = map (λ file. file.path) files

-- The path of a location within a context, without its query.
abbrev pub path_in : Result Canon PathFault → Option (List ℕ)
path_in (Ok canon) = Some canon.path
path_in (Err found) = None

abbrev pub page_with : List ℕ → List ℕ → LoginPage
page_with its_path its_text = record { path = its_path; text = its_text }

-- The text of the file with this path, if there is one, and it is a text.
abbrev pub text_at : List File → List ℕ → Option (List ℕ)
text_at files path = option_and_then text_of (file_at files path)

abbrev pub page_at : List File → List ℕ → Option LoginPage
page_at files path = option_map (page_with path) (text_at files path)

-- The login page, if it is among the files.
abbrev pub login_page_in : List File → Option FormLogin → Option LoginPage
login_page_in files None = None
login_page_in files (Some pages) = option_and_then (page_at files) (path_in (canonical pages.login_page))

abbrev pub files_of : List File → Option FormLogin → ContextFiles
files_of files login = record { paths = Some (paths_of files); login_page = login_page_in files login }

-- The parts of the files that an audit uses, if they are known.
abbrev pub used_of : Option (List File) → Option FormLogin → ContextFiles
used_of None login = record { paths = None; login_page = None }
used_of (Some files) login = files_of files login

-- The same of the folder of this name, or what of it is not available.
abbrev pub files_in : Bool → List ℕ → FolderFiles → Option FormLogin → Step ContextFiles
files_in has_unknown name found login = do
  files ← audited_files has_unknown name found
  Ok (used_of files login)
