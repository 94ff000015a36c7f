use Rattle.std.proofs.Common.{◌≡◌, map}
use Rattle.std.specs.List.{range_with_len}
use Rattle.sv_journal.specs.declared.calls.Place.TheVariants as places
use Rattle.sv_lifecycle.proofs.order.in_init_order.Given as goal

abbrev pub invariant-loop-place : goal.invariant-loop-place
invariant-loop-place l = l.all.items ≡ map places.Filter (range_with_len 0 l.place)
