use Rattle.std.proofs.Common.{◌≡◌, ◌++◌, ◌∷◌, [], map, take, cond}
use Rattle.sv_mapping.specs.Protected.{is_protected}
use Rattle.sv_findings.specs.LoginNeeds.{folder_of}
use Rattle.sv_findings.proofs.asked_folders.base_folders.Given as goal

abbrev pub invariant-loop-folder : goal.invariant-loop-folder
invariant-loop-folder l = map (λ folder. folder.now) l.folders.items ≡ cond (is_protected l.page) [] (folder_of l.page ∷ []) ++ map (λ folder. folder.now) (take l.folder-index l.asked)
