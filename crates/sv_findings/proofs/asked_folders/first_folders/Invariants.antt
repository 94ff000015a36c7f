use Rattle.std.proofs.Common.{◌≡◌, map, take}
use Rattle.sv_policy.specs.Patterns.{different}
use Rattle.sv_findings.specs.declared.asked_folders.TheConstants.{MAX_ASKED_FOLDERS}
use Rattle.sv_findings.proofs.asked_folders.first_folders.Given as goal

abbrev pub invariant-loop-folder : goal.invariant-loop-folder
invariant-loop-folder l = map (λ folder. folder.now) l.kept.items ≡ take MAX_ASKED_FOLDERS (different (map (λ folder. folder.now) (take l.folder-index l.folders)))
