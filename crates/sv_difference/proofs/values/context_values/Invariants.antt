use Rattle.std.proofs.Common.{◌≡◌, map, take}
use Rattle.serde_json.specs.View.{view}
use Rattle.sv_difference.specs.DifferenceJson.{context_value}
use Rattle.sv_difference.proofs.values.context_values.Given as goal

abbrev pub invariant-loop-context : goal.invariant-loop-context
invariant-loop-context l = map view l.values.items ≡ map context_value (map (λ context. context.now) (take l.context-index l.contexts))
