use Rattle.std.proofs.Common.{◌≡◌, take}
use Rattle.sv_deployments.specs.Check.{total_bytes}
use Rattle.sv_deployments.proofs.check.total_bytes.Given as goal

-- the bytes of the files so far
abbrev pub invariant-loop-file : goal.invariant-loop-file
invariant-loop-file l = l.total ≡ total_bytes (take l.file-index l.files)
