use Rattle.std.proofs.Common.{◌≡◌, drop, find}
use Rattle.sv_files.specs.Files.{is_file, welcome_paths}
use Rattle.sv_files.proofs.files.Files.welcome_file.Given as goal

abbrev pub invariant-loop-name : goal.invariant-loop-name
invariant-loop-name l = find (is_file l.self) (welcome_paths l.names l.path) ≡ find (is_file l.self) (welcome_paths (drop l.name-index l.names) l.path)
