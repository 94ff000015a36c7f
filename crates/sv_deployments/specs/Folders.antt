-- The folders of a server's static files, in the order of their readings.
use Rattle.std.specs.Prelude.{◌≡◌, ℕ, List, [], ◌∷◌, map, flat_map, Result}
use Rattle.std.specs.Path.{path_with_file_name}
use Rattle.sv_files.specs.declared.files.File.{File}
use Rattle.sv_program.specs.declared.configuration.ContextTexts.{ContextTexts}
use Rattle.sv_program.specs.declared.unavailable.UnavailableEntry.{UnavailableEntry}
use Rattle.sv_deployments.specs.declared.folders.FoundContext.{FoundContext}

-- the files of a folder, or what of it is not available
abbrev pub FolderFiles : Type 0
FolderFiles = Result (List File) UnavailableEntry

-- the requested name, and what a reading of the folder gave
pub record FolderReading : Type 0 where
  pub name : List ℕ
  pub files : FolderFiles

-- the model of a reading in stores of this type: the store before it, the name, the files, and the store after it
abbrev pub FolderGiving : Type 0 → Type 1
FolderGiving S = S → List ℕ → FolderFiles → S → Type 0

-- the store gives these readings in order, each for its name, and is then in this state
abbrev pub AreFound : {S : Type 0} → FolderGiving S → S → List FolderReading → S → Type 0
AreFound gives before [] after = after ≡ before
AreFound {S} gives before (reading ∷ rest) after = (between : S) × gives before reading.name reading.files between × AreFound gives between rest after

-- the reading of a folder that the server file names; the name replaces the last segment of the server file's name,
-- unless it begins with a slash; an empty name gives no reading
abbrev pub folder_readings : List ℕ → List ℕ → FolderFiles → List FolderReading
folder_readings config [] files = []
folder_readings config (first ∷ rest) files = record { name = path_with_file_name config (first ∷ rest); files = files } ∷ []

abbrev pub context_readings : List ℕ → FoundContext → List FolderReading
context_readings config found = folder_readings config found.texts.context.files found.files

-- the folder is read if it has a name
abbrev pub ReadsFolder : {S : Type 0} → FolderGiving S → List ℕ → List ℕ → S → FolderFiles → S → Type 0
ReadsFolder gives config name before files after = AreFound gives before (folder_readings config name files) after

-- the folders of the contexts are read
abbrev pub ReadsFolders : {S : Type 0} → FolderGiving S → List ℕ → List ContextTexts → S → List FoundContext → S → Type 0
ReadsFolders gives config contexts before found after =
    (map (λ context. context.texts) found ≡ contexts) × AreFound gives before (flat_map (context_readings config) found) after
