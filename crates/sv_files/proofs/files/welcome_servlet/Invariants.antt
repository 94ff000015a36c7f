use Rattle.std.proofs.Common.{◌≡◌, drop, find}
use Rattle.sv_files.specs.Files.{is_served, welcome_paths}
use Rattle.sv_files.proofs.files.welcome_servlet.Given as goal

abbrev pub invariant-loop-name : goal.invariant-loop-name
invariant-loop-name l = find (is_served l.patterns) (welcome_paths l.names l.path) ≡ find (is_served l.patterns) (welcome_paths (drop l.name-index l.names) l.path)
