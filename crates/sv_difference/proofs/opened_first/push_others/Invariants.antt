use Rattle.std.proofs.Common.{◌≡◌, ◌++◌, map, not, take}
use Rattle.std.specs.Prelude.{filter}
use Rattle.sv_difference.specs.OpenedFirst.{may_open}
use Rattle.sv_difference.proofs.opened_first.push_others.Given as goal

abbrev pub invariant-loop-context : goal.invariant-loop-context
invariant-loop-context l =
    map (λ context. context.now) l.ordered.items ≡ map (λ context. context.now) l.initial.ordered.items ++ filter (λ context. not (may_open context)) (take l.context-index l.contexts)
