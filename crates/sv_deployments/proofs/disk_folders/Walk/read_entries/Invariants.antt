use Rattle.std.proofs.Common.{◌+◌, ◌≤◌, length}
use Rattle.sv_files.specs.declared.files.TheConstants.{MAX_FILES}
use Rattle.sv_deployments.proofs.disk_folders.Walk.read_entries.Given as goal

-- at most one file over the limit is taken
abbrev pub invariant-loop-entry : goal.invariant-loop-entry
invariant-loop-entry g l =
    (goal.iterator-loop-entry g).can_next l.entry-iterator × (goal.iterator-loop-entry g).is_finite l.entry-iterator
    × (length l.self.files.items ≤ MAX_FILES + 1)
