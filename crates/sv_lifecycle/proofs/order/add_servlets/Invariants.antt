use Rattle.std.proofs.Common.{◌≡◌, ◌++◌, map, take}
use Rattle.sv_journal.specs.declared.calls.Place.TheVariants as places
use Rattle.sv_lifecycle.proofs.order.add_servlets.Given as goal

abbrev pub invariant-loop-place : goal.invariant-loop-place
invariant-loop-place l = l.all.items ≡ l.initial.all.items ++ map places.Servlet (take l.place-index l.order)
