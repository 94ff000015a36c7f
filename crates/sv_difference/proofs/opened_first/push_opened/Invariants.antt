use Rattle.std.proofs.Common.{◌≡◌, ◌++◌, map, take}
use Rattle.std.specs.Prelude.{filter}
use Rattle.sv_difference.specs.OpenedFirst.{may_open}
use Rattle.sv_difference.proofs.opened_first.push_opened.Given as goal

abbrev pub invariant-loop-context : goal.invariant-loop-context
invariant-loop-context l = map (λ context. context.now) l.ordered.items ≡ map (λ context. context.now) l.initial.ordered.items ++ filter may_open (take l.context-index l.contexts)
