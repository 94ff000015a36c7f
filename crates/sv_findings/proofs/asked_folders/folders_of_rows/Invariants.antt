use Rattle.std.proofs.Common.{◌≡◌, map, take}
use Rattle.std.specs.List.{flat_map}
use Rattle.sv_findings.specs.LoginNeeds.{asked_at}
use Rattle.sv_findings.proofs.asked_folders.folders_of_rows.Given as goal

abbrev pub invariant-loop-row : goal.invariant-loop-row
invariant-loop-row l = map (λ folder. folder.now) l.folders.items ≡ flat_map (λ row. asked_at row.pattern row.groups) (map (λ row. row.now) (take l.row-index l.met))
