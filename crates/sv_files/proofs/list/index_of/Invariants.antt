use Rattle.std.proofs.Common.{◌≡◌, take, false}
use Rattle.sv_files.specs.Fault.{repeats}
use Rattle.sv_files.specs.Index.{IsIndexOf}
use Rattle.sv_files.proofs.list.index_of.Given as goal

abbrev pub invariant-loop-place : goal.invariant-loop-place
invariant-loop-place l = IsIndexOf l.index (take l.place l.files) × (repeats (take l.place l.files) ≡ false)
