-- The faults of a list of files.
use Rattle.std.specs.Prelude.{ℕ, Bool, not, ◌||◌, false, nat_lt, List, [], ◌∷◌, ◌++◌, length, codes, find, Option, Some, None, Result}
use Rattle.std.specs.List.{list_any}
use Rattle.std.specs.Option.{option_map}
use Rattle.sv_text.specs.Faults.{when, first_or}
use Rattle.sv_files.specs.Files.{is_file, is_file_path}
use Rattle.sv_files.specs.declared.fault.FilesFault.{FilesFault}
use Rattle.sv_files.specs.declared.fault.FilesFault.TheVariants.{BadPath, Duplicate, TooMany, TooLarge, NoMemory}
use Rattle.sv_files.specs.declared.files.File.{File}
use Rattle.sv_files.specs.declared.files.TheConstants.{MAX_FILES, MAX_FILE_BYTES}

-- Two files have the same path.
abbrev pub repeats : List File → Bool
repeats [] = false
repeats (file ∷ rest) = is_file rest file.path || repeats rest

-- All faults of a list of files, in their order.
abbrev pub list_faults : List File → List FilesFault
list_faults files = when (list_any (λ file. not (is_file_path file.path)) files) BadPath
    ++ when (repeats files) Duplicate
    ++ when (nat_lt MAX_FILES (length files)) TooMany
    ++ when (list_any (λ file. nat_lt MAX_FILE_BYTES (length file.bytes)) files) TooLarge

-- The path of the first file with a path that no request can name.
abbrev pub bad_path : List File → Option (List ℕ)
bad_path files = option_map (λ file. file.path) (find (λ file. not (is_file_path file.path)) files)

-- The path of the first file that is too large.
abbrev pub large_path : List File → Option (List ℕ)
large_path files = option_map (λ file. file.path) (find (λ file. nat_lt MAX_FILE_BYTES (length file.bytes)) files)

-- The files of a list, or its first fault.
abbrev pub files_of : List File → Result (List File) FilesFault
files_of files = first_or (list_faults files) files

-- The fault of the list; none if memory ran out.
abbrev pub list_fault : FilesFault → Option FilesFault
list_fault BadPath = Some BadPath
list_fault Duplicate = Some Duplicate
list_fault TooMany = Some TooMany
list_fault TooLarge = Some TooLarge
list_fault NoMemory = None

-- The printed text of a fault.
abbrev pub fault_text : FilesFault → List ℕ
fault_text BadPath = codes "BadPath"
fault_text Duplicate = codes "Duplicate"
fault_text TooMany = codes "TooMany"
fault_text TooLarge = codes "TooLarge"
fault_text NoMemory = codes "no memory"

abbrev pub fault_number : FilesFault → ℕ
fault_number BadPath = 1
fault_number Duplicate = 2
fault_number TooMany = 3
fault_number TooLarge = 4
fault_number NoMemory = 5
