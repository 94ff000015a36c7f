use Rattle.std.proofs.Common.{◌≡◌, ◌++◌, drop, length, Ok}
use Rattle.sv_text.specs.Steps.{◌>>=◌}
use Rattle.sv_deployments.specs.Parts.{each_from}
use Rattle.sv_deployments.proofs.declaration.components_of.Given as goal

-- the remaining entries give the remaining components
abbrev pub invariant-loop-entry : goal.invariant-loop-entry
invariant-loop-entry g l =
    (each_from g.D.Declared.stands_for (length l.components.items) (drop l.entry-index l.declared) >>= λ rest. Ok (l.components.items ++ rest)) ≡ each_from g.D.Declared.stands_for 0 l.declared
