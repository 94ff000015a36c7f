-- Files without their bytes.
use Rattle.std.proofs.Common.{◌≡◌, ℕ, suc, Bool, true, false, not, ◌||◌, List, [], ◌∷◌, ◌++◌, length, map, find, Option, Some, None, refl, ap, ◌∙◌, cond}
use Rattle.std.specs.List.{list_any}
use Rattle.std.specs.Option.{option_map, option_or}
use Rattle.std.specs.Prelude.{nat_lt}
use Rattle.std.specs.Result.{result_ok}
use Rattle.std.specs.Str.{bytes_eq}
use Rattle.sv_files.specs.Answer.{Answer, Content, Welcome, Slash, Missing, Method, answer_to, file_answer, file_alone, found, is_reading, refused, to_content, to_welcome, welcome}
use Rattle.sv_files.specs.Below.{lies_below}
use Rattle.sv_files.specs.Fault.{list_faults, repeats}
use Rattle.sv_files.specs.Files.{ends_in_slash, file_at, is_file, is_file_path, is_folder, is_served, welcome_paths}
use Rattle.sv_files.specs.declared.fault.FilesFault.{FilesFault}
use Rattle.sv_files.specs.declared.fault.FilesFault.TheVariants.{BadPath, Duplicate, TooMany, TooLarge}
use Rattle.sv_files.specs.declared.files.File.{File}
use Rattle.sv_files.specs.declared.files.TheConstants.{MAX_FILES, MAX_FILE_BYTES}
use Rattle.sv_mapping.specs.declared.kind.Kind.{Kind}
use Rattle.sv_mapping.specs.declared.kind.Kind.TheVariants.{Request, Forward, Include, Error}
use Rattle.sv_text.specs.Faults.{when, first_or}
use Rattle.sv_explanation.specs.ContextFiles.{file_with, files_with}

abbrev pub paths_of : List File → List (List ℕ)
paths_of files = map (λ file. file.path) files

abbrev pub bare : List File → List File
bare files = map file_with (paths_of files)

-- The answer without the bytes of a file.
abbrev pub without_bytes : Answer → Answer
without_bytes (Content bytes) = Content []
without_bytes (Welcome path) = Welcome path
without_bytes Slash = Slash
without_bytes Missing = Missing
without_bytes Method = Method

-- A test of paths passes for the same files.
any_bare : (test : List ℕ → Bool) (files : List File) → list_any (λ (file : File). test file.path) (bare files) ≡ list_any (λ (file : File). test file.path) files
any_bare test [] = refl
any_bare test (file ∷ files) = ap (λ rest. test file.path || rest) (any_bare test files)

is_file_bare : (files : List File) (path : List ℕ) → is_file (bare files) path ≡ is_file files path
is_file_bare files path = any_bare (λ other. bytes_eq other path) files

is_folder_bare : (files : List File) (path : List ℕ) → is_folder (bare files) path ≡ is_folder files path
is_folder_bare files path = any_bare (λ other. lies_below path other) files

found_alike : (p q : List ℕ → Bool) → ((path : List ℕ) → p path ≡ q path) → (paths : List (List ℕ)) → find p paths ≡ find q paths
found_alike p q same [] = refl
found_alike p q same (path ∷ paths) = ap (λ b. cond b (Some path) (find p paths)) (same path) ∙ ap (cond (q path) (Some path)) (found_alike p q same paths)

welcome_bare : (files : List File) (patterns paths : List (List ℕ)) → welcome (bare files) patterns paths ≡ welcome files patterns paths
welcome_bare files patterns paths =
    ap (λ first. option_or first (find (is_served patterns) paths)) (found_alike (is_file (bare files)) (is_file files) (is_file_bare files) paths)

-- ---- answers

content_by : (b : Bool) (file : File) (one other : Option File) → to_content (option_map (λ (f : File). f.bytes) one) ≡ without_bytes (to_content (option_map (λ (f : File). f.bytes) other))
    → to_content (option_map (λ (f : File). f.bytes) (cond b (Some (file_with file.path)) one)) ≡ without_bytes (to_content (option_map (λ (f : File). f.bytes) (cond b (Some file) other)))
content_by true file one other is = refl
content_by false file one other is = is

content_bare : (files : List File) (path : List ℕ) → to_content (file_at (bare files) path) ≡ without_bytes (to_content (file_at files path))
content_bare [] path = refl
content_bare (file ∷ files) path = content_by (bytes_eq file.path path) file _ _ (content_bare files path)

welcomed : (page : Option (List ℕ)) → to_welcome page ≡ without_bytes (to_welcome page)
welcomed None = refl
welcomed (Some page) = refl

found_by : (ends folder folder_bare : Bool) (page page_bare : Option (List ℕ)) (content content_bare : Answer)
    → folder_bare ≡ folder → page_bare ≡ page → content_bare ≡ without_bytes content
    → cond ends (to_welcome page_bare) (cond folder_bare Slash content_bare) ≡ without_bytes (cond ends (to_welcome page) (cond folder Slash content))
found_by true folder folder_bare page page_bare content its same is_page is = ap to_welcome is_page ∙ welcomed page
found_by false true folder_bare page page_bare content its same is_page is = ap (λ b. cond b Slash its) same
found_by false false folder_bare page page_bare content its same is_page is = ap (λ b. cond b Slash its) same ∙ is

found_bare : (files : List File) (names patterns : List (List ℕ)) (path : List ℕ) → found (bare files) names patterns path ≡ without_bytes (found files names patterns path)
found_bare files names patterns path =
    found_by (ends_in_slash path) (is_folder files path) (is_folder (bare files) path)
    (welcome files patterns (welcome_paths names path)) (welcome (bare files) patterns (welcome_paths names path))
    (to_content (file_at files path)) (to_content (file_at (bare files) path))
    (is_folder_bare files path) (welcome_bare files patterns (welcome_paths names path)) (content_bare files path)

allowed_bare : (reading : Bool) (its : Answer) → cond reading (without_bytes its) (refused (without_bytes its)) ≡ without_bytes (cond reading its (refused its))
allowed_bare true its = refl
allowed_bare false (Content bytes) = refl
allowed_bare false (Welcome path) = refl
allowed_bare false Slash = refl
allowed_bare false Missing = refl
allowed_bare false Method = refl

alone_bare : (its : Answer) → file_alone (without_bytes its) ≡ without_bytes (file_alone its)
alone_bare (Content bytes) = refl
alone_bare (Welcome path) = refl
alone_bare Slash = refl
alone_bare Missing = refl
alone_bare Method = refl

answer_bare : (kind : Kind) (method : List ℕ) (its : Answer) → answer_to kind method (without_bytes its) ≡ without_bytes (answer_to kind method its)
answer_bare Request method its = allowed_bare (is_reading method) its
answer_bare Forward method its = alone_bare its
answer_bare Include method its = alone_bare its
answer_bare Error method its = alone_bare its

-- The answer is the same but for the bytes.
pub bytes_do_not_matter : (files : List File) (path method : List ℕ) (kind : Kind) (names patterns : List (List ℕ))
    → file_answer (bare files) path method kind names patterns ≡ without_bytes (file_answer files path method kind names patterns)
bytes_do_not_matter files path method kind names patterns =
    ap (answer_to kind method) (found_bare files names patterns path) ∙ answer_bare kind method (found files names patterns path)

-- ---- faults

repeats_bare : (files : List File) → repeats (bare files) ≡ repeats files
repeats_bare [] = refl
repeats_bare (file ∷ files) = ap (λ b. b || repeats (bare files)) (is_file_bare files file.path) ∙ ap (λ b. is_file files file.path || b) (repeats_bare files)

large_bare : (files : List File) → list_any (λ (file : File). nat_lt MAX_FILE_BYTES (length file.bytes)) (bare files) ≡ false
large_bare [] = refl
large_bare (file ∷ files) = large_bare files

length_bare : (files : List File) → length (bare files) ≡ length files
length_bare [] = refl
length_bare (file ∷ files) = ap suc (length_bare files)

abbrev faults_by : Bool → Bool → Bool → Bool → List FilesFault
faults_by bad twice many large = when bad BadPath ++ when twice Duplicate ++ when many TooMany ++ when large TooLarge

no_large : (bad twice many large : Bool) → faults_by bad twice many large ≡ [] → faults_by bad twice many false ≡ []
no_large false false false large none = refl
no_large true twice many large none = cc
no_large false true many large none = cc
no_large false false true large none = cc

faultless_bare : (files : List File) → list_faults files ≡ [] → list_faults (bare files) ≡ []
faultless_bare files none =
    let bad : List ℕ → Bool = λ path. not (is_file_path path) in
    ap (λ b. faults_by b (repeats (bare files)) (nat_lt MAX_FILES (length (bare files))) (list_any (λ (file : File). nat_lt MAX_FILE_BYTES (length file.bytes)) (bare files))) (any_bare bad files)
    ∙ ap (λ b. faults_by (list_any (λ (file : File). bad file.path) files) b (nat_lt MAX_FILES (length (bare files))) (list_any (λ (file : File). nat_lt MAX_FILE_BYTES (length file.bytes)) (bare files))) (repeats_bare files)
    ∙ ap (λ n. faults_by (list_any (λ (file : File). bad file.path) files) (repeats files) (nat_lt MAX_FILES n) (list_any (λ (file : File). nat_lt MAX_FILE_BYTES (length file.bytes)) (bare files))) (length_bare files)
    ∙ ap (faults_by (list_any (λ (file : File). bad file.path) files) (repeats files) (nat_lt MAX_FILES (length files))) (large_bare files)
    ∙ no_large (list_any (λ (file : File). bad file.path) files) (repeats files) (nat_lt MAX_FILES (length files)) _ none

-- Files without faults are known by their paths.
pub faultless_paths : (files : List File) → list_faults files ≡ [] → files_with (paths_of files) ≡ Some (bare files)
faultless_paths files none = ap (λ (faults : List FilesFault). result_ok (first_or faults (bare files))) (faultless_bare files none)
