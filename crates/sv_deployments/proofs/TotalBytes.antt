-- The bytes of static files together.
use Rattle.std.proofs.Common.{◌≡◌, ℕ, ◌*◌, ◌≤◌, Bool, true, false, nat_lt, ◌||◌, List, [], ◌∷◌, ◌++◌, length, arith, refl, rules, not}
use Rattle.std.proofs.lemmas.List.Sums.{sum_by-cons}
use Rattle.std.specs.List.{list_any}
use Rattle.sv_text.specs.Faults.{when}
use Rattle.sv_files.specs.Fault.{list_faults, repeats}
use Rattle.sv_files.specs.Files.{is_file_path}
use Rattle.sv_files.specs.declared.fault.FilesFault.TheVariants.{BadPath, Duplicate, TooMany, TooLarge}
use Rattle.sv_files.specs.declared.files.File.{File}
use Rattle.sv_files.specs.declared.files.TheConstants.{MAX_FILES, MAX_FILE_BYTES}
use Rattle.sv_deployments.specs.Check.{total_bytes}

not_more : (limit number : ℕ) → nat_lt limit number ≡ false → number ≤ limit
not_more limit number h = search (rules, h)

neither : (a b : Bool) → (a || b) ≡ false → (a ≡ false) × (b ≡ false)
neither true b h = cc
neither false b h = (refl, h)

clear : (a b c d : Bool) → when a BadPath ++ when b Duplicate ++ when c TooMany ++ when d TooLarge ≡ [] → (c ≡ false) × (d ≡ false)
clear true b c d h = cc
clear false true c d h = cc
clear false false true d h = cc
clear false false false true h = cc
clear false false false false h = (refl, refl)

small : (files : List File) → list_any (λ file. nat_lt MAX_FILE_BYTES (length file.bytes)) files ≡ false → total_bytes files ≤ length files * MAX_FILE_BYTES
small [] h = omega arith
small (file ∷ rest) h =
    let both = neither (nat_lt MAX_FILE_BYTES (length file.bytes)) (list_any (λ one. nat_lt MAX_FILE_BYTES (length one.bytes)) rest) h in
    omega (arith, sum_by-cons (λ (one : File). length one.bytes) file rest, not_more MAX_FILE_BYTES (length file.bytes) both.0, small rest both.1)

-- the files of a context have less than 10 GiB
pub few_bytes : (files : List File) → list_faults files ≡ [] → total_bytes files ≤ 10485760000
few_bytes files h =
    let both = clear (list_any (λ file. not (is_file_path file.path)) files) (repeats files) (nat_lt MAX_FILES (length files)) (list_any (λ file. nat_lt MAX_FILE_BYTES (length file.bytes)) files) h in
    omega (arith, small files both.1, not_more MAX_FILES (length files) both.0)
