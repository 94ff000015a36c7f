-- The positions of files, one file after another.
use Rattle.std.proofs.Common.{ℕ, ◌≡◌, ◌+◌, ◌<◌, Bool, true, false, ◌||◌, cond, List, [], ◌∷◌, ◌++◌, length, get_or, take, drop, take-append-drop, Option, Some, None, sym, refl, ap, subst, ◌∙◌, ⊎_elim}
use Rattle.std.specs.List.{position, slice_get}
use Rattle.std.specs.Option.{option_and_then, option_map, option_or}
use Rattle.std.specs.Str.{bytes_eq}
use Rattle.std.proofs.lemmas.Bool.{both_ways, cases_Bool, cond-true, cond-false, false_from_ne_true, or_cases, or_from, or_left, or_parts, or_right}
use Rattle.std.proofs.lemmas.List.{drop_more, take_more}
use Rattle.std.proofs.lemmas.List.Folds.{list_any-append}
use Rattle.std.proofs.lemmas.Option.{slice_get_read}
use Rattle.std.proofs.lemmas.Slice.Eq.{bytes_eq-Decides}
use Rattle.sv_mapping.proofs.FirstBest.{get-position}
use Rattle.sv_text.proofs.FirstPlace.{none_is, or_none, position-push, position_some}
use Rattle.sv_files.specs.Below.{lies_below}
use Rattle.sv_files.specs.Fault.{repeats}
use Rattle.sv_files.specs.Index.{IsIndexOf}
use Rattle.sv_files.specs.Files.{file_at, is_file, is_folder}
use Rattle.sv_files.specs.declared.files.File.{File}
use Rattle.sv_files.specs.declared.index.Index.{Index}

-- ---- one more file, whose path is new
pub place-more : (files : List File) (file : File) (place : ℕ) (path : List ℕ) (was now : Option ℕ) → place ≡ length files → is_file files file.path ≡ false → was ≡ position (λ f. bytes_eq f.path path) files → now ≡ cond (bytes_eq file.path path) (Some place) was → now ≡ position (λ f. bytes_eq f.path path) (files ++ file ∷ [])
place-more files file place path was now last new before after =
    let pushed = position-push (λ (f : File). bytes_eq f.path path) files file in
    ⊎_elim
    (λ same.
    let it = (bytes_eq-Decides file.path path).0 same in
    let none : position (λ (f : File). bytes_eq f.path path) files ≡ None = none_is _ (position_some (λ (f : File). bytes_eq f.path path) files ∙ (ap (is_file files) (sym it) ∙ new)) in
    after ∙ (cond-true _ _ _ same ∙ (ap Some last ∙ sym (pushed ∙ (ap (λ o. option_or o (cond (bytes_eq file.path path) (Some (length files)) None)) none ∙ cond-true _ _ _ same)))))
    (λ apart. after ∙ (cond-false _ _ _ apart ∙ (before ∙ sym (pushed ∙ (ap (option_or (position (λ (f : File). bytes_eq f.path path) files)) (cond-false _ _ _ apart) ∙ or_none _)))))
    (cases_Bool (bytes_eq file.path path))

pub folder-more : (files : List File) (file : File) (folder : List ℕ) (now : Bool) → now ≡ (is_folder files folder || lies_below folder file.path) → now ≡ is_folder (files ++ file ∷ []) folder
folder-more files file folder now is =
    is ∙ sym (list_any-append (λ (f : File). lies_below folder f.path) files (file ∷ []) ∙ ap (λ b. is_folder files folder || b) (or_false (lies_below folder file.path)))
  where
    or_false : (b : Bool) → (b || false) ≡ b
    or_false true = refl
    or_false false = refl

-- ---- the file at a position
file_at-place : (files : List File) (path : List ℕ) → file_at files path ≡ option_map (λ (f : File). f.bytes) (option_and_then (λ i. slice_get files i) (position (λ (f : File). bytes_eq f.path path) files))
file_at-place files path = ap (option_map (λ (f : File). f.bytes)) (sym (get-position (λ (f : File). bytes_eq f.path path) files))

-- ---- paths that differ
bytes_eq-turn : (a b : List ℕ) → bytes_eq a b ≡ bytes_eq b a
bytes_eq-turn a b =
    ⊎_elim
    (λ same. same ∙ sym ((bytes_eq-Decides b a).1 (sym ((bytes_eq-Decides a b).0 same))))
    (λ apart. apart ∙ sym (false_from_ne_true (bytes_eq b a) (λ same. both_ways (bytes_eq a b) apart ((bytes_eq-Decides a b).1 (sym ((bytes_eq-Decides b a).0 same))))))
    (cases_Bool (bytes_eq a b))

is_file-append : (xs ys : List File) (path : List ℕ) → is_file (xs ++ ys) path ≡ (is_file xs path || is_file ys path)
is_file-append xs ys path = list_any-append (λ (f : File). bytes_eq f.path path) xs ys

repeats-again : (xs : List File) (file : File) (ys : List File) → is_file xs file.path ≡ true → repeats (xs ++ file ∷ ys) ≡ true
repeats-again [] file ys found = cc
repeats-again (x ∷ xs) file ys found =
    ⊎_elim
    (λ here.
    let again : is_file (xs ++ file ∷ ys) x.path ≡ true = is_file-append xs (file ∷ ys) x.path ∙ or_right (is_file xs x.path) (is_file (file ∷ ys) x.path) (or_left (bytes_eq file.path x.path) (is_file ys x.path) (bytes_eq-turn file.path x.path ∙ here)) in
    or_left (is_file (xs ++ file ∷ ys) x.path) (repeats (xs ++ file ∷ ys)) again)
    (λ later. or_right (is_file (xs ++ file ∷ ys) x.path) (repeats (xs ++ file ∷ ys)) (repeats-again xs file ys later))
    (or_cases (bytes_eq x.path file.path) (is_file xs file.path) found)

repeats-new : (xs : List File) (file : File) → repeats xs ≡ false → is_file xs file.path ≡ false → repeats (xs ++ file ∷ []) ≡ false
repeats-new [] file differ new = refl
repeats-new (x ∷ xs) file differ new =
    let before = or_parts (is_file xs x.path) (repeats xs) differ in
    let apart = or_parts (bytes_eq x.path file.path) (is_file xs file.path) new in
    let other : is_file (xs ++ file ∷ []) x.path ≡ false = is_file-append xs (file ∷ []) x.path ∙ or_from (is_file xs x.path) (is_file (file ∷ []) x.path) before.0 (or_from (bytes_eq file.path x.path) false (bytes_eq-turn file.path x.path ∙ apart.0) refl) in
    or_from (is_file (xs ++ file ∷ []) x.path) (repeats (xs ++ file ∷ [])) other (repeats-new xs file before.1 apart.1)

-- The file at an index has the path of an earlier one.
pub repeats-at : (files : List File) (file : File) (i : ℕ) → i < length files → file ≡ get_or files i file → is_file (take i files) file.path ≡ true → repeats files ≡ true
repeats-at files file i within is found =
    let whole : files ≡ take i files ++ file ∷ drop (i + 1) files = sym (take-append-drop i files) ∙ (ap (λ rest. take i files ++ rest) (drop_more files i file within) ∙ ap (λ (f : File). take i files ++ f ∷ drop (i + 1) files) (sym is)) in
    ap repeats whole ∙ repeats-again (take i files) file (drop (i + 1) files) found

-- The file at an index has the path of no earlier one.
pub repeats-more : (files : List File) (file : File) (i : ℕ) → i < length files → file ≡ get_or files i file → repeats (take i files) ≡ false → is_file (take i files) file.path ≡ false → repeats (take (i + 1) files) ≡ false
repeats-more files file i within is differ new =
    ap repeats (take_more files i file within ∙ ap (λ (f : File). take i files ++ f ∷ []) (sym is)) ∙ repeats-new (take i files) file differ new

pub index-more : (index : Index) (files : List File) (file : File) (i : ℕ) → i < length files → file ≡ get_or files i file → IsIndexOf index (take i files ++ file ∷ []) → IsIndexOf index (take (i + 1) files)
index-more index files file i within is its = subst (IsIndexOf index) (sym (take_more files i file within ∙ ap (λ (f : File). take i files ++ f ∷ []) (sym is))) its

-- ---- the results of lookups
pub file_at-none : (files : List File) (path : List ℕ) → None ≡ position (λ (f : File). bytes_eq f.path path) files → file_at files path ≡ None
file_at-none files path none = file_at-place files path ∙ ap (λ o. option_map (λ (f : File). f.bytes) (option_and_then (λ i. slice_get files i) o)) (sym none)

pub file_at-some : (files : List File) (path : List ℕ) (i : ℕ) (file : File) → Some i ≡ position (λ (f : File). bytes_eq f.path path) files → i < length files → file ≡ get_or files i file → file_at files path ≡ Some file.bytes
file_at-some files path i file found within is =
    file_at-place files path
    ∙ (ap (λ o. option_map (λ (f : File). f.bytes) (option_and_then (λ i. slice_get files i) o)) (sym found)
    ∙ ap (option_map (λ (f : File). f.bytes)) (slice_get_read files (length files) i file refl within is))
