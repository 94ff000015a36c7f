use Rattle.std.proofs.Common.{◌≡◌, drop}
use Rattle.sv_files.specs.Fault.{bad_path}
use Rattle.sv_files.proofs.list.first_bad_path.Given as goal

abbrev pub invariant-loop-file : goal.invariant-loop-file
invariant-loop-file l = bad_path l.files ≡ bad_path (drop l.file-index l.files)
