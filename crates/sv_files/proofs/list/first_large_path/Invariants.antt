use Rattle.std.proofs.Common.{◌≡◌, drop}
use Rattle.sv_files.specs.Fault.{large_path}
use Rattle.sv_files.proofs.list.first_large_path.Given as goal

abbrev pub invariant-loop-file : goal.invariant-loop-file
invariant-loop-file l = large_path l.files ≡ large_path (drop l.file-index l.files)
