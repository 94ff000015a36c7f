use Rattle.std.proofs.Common.{◌+◌, ◌≤◌, length}
use Rattle.sv_files.specs.declared.files.TheConstants.{MAX_FILES}
use Rattle.sv_deployments.proofs.disk_folders.Walk.read_all.Given as goal

-- at most one file over the limit is taken
abbrev pub invariant-loop : goal.invariant-loop
invariant-loop g l = length l.self.files.items ≤ MAX_FILES + 1
