use Rattle.std.proofs.Common.{◌≡◌, map, take}
use Rattle.sv_audited_contexts.proofs.context_files.paths_of.Given as goal

abbrev pub invariant-loop-file : goal.invariant-loop-file
invariant-loop-file l = l.paths.items ≡ map (λ file. file.path) (take l.file-index l.files)
