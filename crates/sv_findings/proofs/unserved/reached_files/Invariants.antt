use Rattle.std.proofs.Common.{◌≡◌, map, take}
use Rattle.sv_findings.specs.Unserved.{reached_files}
use Rattle.sv_findings.proofs.unserved.reached_files.Given as goal

abbrev pub invariant-loop-file : goal.invariant-loop-file
invariant-loop-file l = map (λ file. file.now) l.kept.items ≡ reached_files l.reaches.0 l.reaches.1 (take l.file-index l.files)
