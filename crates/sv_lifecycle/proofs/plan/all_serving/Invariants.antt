use Rattle.std.proofs.Common.{◌≡◌, replicate}
use Rattle.sv_component.specs.declared.standing.Standing.TheVariants as standings
use Rattle.sv_lifecycle.proofs.plan.all_serving.Given as goal

abbrev pub invariant-loop : goal.invariant-loop
invariant-loop l = l.all.items ≡ replicate l.counter standings.Serving
