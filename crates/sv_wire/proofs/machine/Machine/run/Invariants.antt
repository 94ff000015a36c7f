use Rattle.std.proofs.Common.{ℕ, ◌-◌, ◌≤◌, List, ◌++◌, length, drop}
use Rattle.sv_wire.specs.Chunks.{Body}
use Rattle.sv_wire.specs.Machine.{IsFit, Continues}
use Rattle.sv_wire.proofs.machine.Machine.run.Given as goal

abbrev pub invariant-loop-count : goal.invariant-loop-count
invariant-loop-count l =
    (l.at ≤ length l.text) × IsFit l.self
    × ((more : List ℕ) (body : Body) → Continues l.self (drop l.at l.text ++ more) body → Continues l.fn.self (l.text ++ more) body)

abbrev pub decreases-loop-count : goal.decreases-loop-count
decreases-loop-count l = length l.text - l.at
