use Rattle.std.proofs.Common.{◌≡◌, map, take}
use Rattle.sv_explanation.specs.ContextFiles.{file_with}
use Rattle.sv_explanation.proofs.context_files.listed_files.Given as goal

abbrev pub invariant-loop-path : goal.invariant-loop-path
invariant-loop-path l = l.files.items ≡ map file_with (take l.path-index l.paths)
