use Rattle.std.proofs.Common.{◌≡◌, drop, not}
use Rattle.std.specs.List.{list_any}
use Rattle.sv_files.specs.Files.{is_file_path}
use Rattle.sv_files.proofs.list.has_bad_path.Given as goal

abbrev pub invariant-loop-file : goal.invariant-loop-file
invariant-loop-file l = list_any (λ file. not (is_file_path file.path)) l.files ≡ list_any (λ file. not (is_file_path file.path)) (drop l.file-index l.files)
