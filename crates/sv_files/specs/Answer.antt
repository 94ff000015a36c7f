-- The answers of the file servlet: Jakarta Servlet 6.0, sections 10.10 (welcome files) and 12.2 (the default servlet).
use Rattle.std.specs.Prelude.{ℕ, Bool, ◌||◌, List, codes, find, Option, Some, None, if◌then◌else◌}
use Rattle.std.specs.Option.{option_or}
use Rattle.std.specs.Str.{bytes_eq}
use Rattle.sv_mapping.specs.declared.kind.Kind.{Kind}
use Rattle.sv_mapping.specs.declared.kind.Kind.TheVariants.{Request, Forward, Include, Error}
use Rattle.sv_files.specs.Files.{ends_in_slash, file_at, is_file, is_folder, is_served, welcome_paths}
use Rattle.sv_files.specs.declared.answer.FileAnswer.{FileAnswer}
use Rattle.sv_files.specs.declared.answer.FileAnswer.TheVariants as seen
use Rattle.sv_files.specs.declared.files.File.{File}

-- The bytes of a file; a redirect to a welcome path; a redirect to a folder, with a slash added; nothing found; or a
-- method that is not allowed.
pub data Answer : Type 0 where
  Content : List ℕ → Answer
  Welcome : List ℕ → Answer
  Slash : Answer
  Missing : Answer
  Method : Answer

-- The answer of the code, which borrows the bytes of the file.
abbrev pub answer_seen : FileAnswer → Answer
answer_seen (seen.File bytes) = Content bytes.now
answer_seen (seen.Welcome path) = Welcome path
answer_seen seen.Slash = Slash
answer_seen seen.Missing = Missing
answer_seen seen.Method = Method

-- The first of the paths that is a file's, otherwise the first that a servlet serves.
abbrev pub welcome : List File → List (List ℕ) → List (List ℕ) → Option (List ℕ)
welcome files patterns paths = option_or (find (is_file files) paths) (find (is_served patterns) paths)

abbrev pub to_welcome : Option (List ℕ) → Answer
to_welcome (Some path) = Welcome path
to_welcome None = Missing

abbrev pub to_content : Option (List ℕ) → Answer
to_content (Some bytes) = Content bytes
to_content None = Missing

-- The answer for a path: with a slash at its end a welcome path, otherwise a folder or a file.
abbrev pub found : List File → List (List ℕ) → List (List ℕ) → List ℕ → Answer
found files names patterns path =
    if ends_in_slash path then to_welcome (welcome files patterns (welcome_paths names path))
    else if is_folder files path then Slash
    else to_content (file_at files path)

-- The methods for reading.
abbrev pub is_reading : List ℕ → Bool
is_reading method = bytes_eq method (codes "GET") || bytes_eq method (codes "HEAD")

-- Another method is not allowed if something is found.
abbrev pub refused : Answer → Answer
refused (Content bytes) = Method
refused (Welcome path) = Method
refused Slash = Method
refused Missing = Missing
refused Method = Method

-- Clients may only read.
abbrev pub allowed : List ℕ → Answer → Answer
allowed method at_path = if is_reading method then at_path else refused at_path

-- Only a file is found.
abbrev pub file_alone : Answer → Answer
file_alone (Content bytes) = Content bytes
file_alone (Welcome path) = Missing
file_alone Slash = Missing
file_alone Missing = Missing
file_alone Method = Missing

-- A client's request reads, is redirected, or is refused because of its method. Any other dispatch finds only files, by
-- any method.
abbrev pub answer_to : Kind → List ℕ → Answer → Answer
answer_to Request method at_path = allowed method at_path
answer_to Forward method at_path = file_alone at_path
answer_to Include method at_path = file_alone at_path
answer_to Error method at_path = file_alone at_path

abbrev pub file_answer : List File → List ℕ → List ℕ → Kind → List (List ℕ) → List (List ℕ) → Answer
file_answer files path method kind names patterns = answer_to kind method (found files names patterns path)
