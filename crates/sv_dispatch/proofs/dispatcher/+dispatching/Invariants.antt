use Rattle.std.proofs.Common.{◌≡◌, ◌+◌, ◌*◌, ◌-◌}
use Rattle.sv_tree.specs.SiteOfDescriptor.{site_of}
use Rattle.sv_tree.specs.declared.limits.TheConstants.{MAX_CALLS}
use Rattle.sv_dispatch.proofs.TurnDeeds.{TurnsOn}
use Rattle.sv_dispatch.proofs.dispatcher.+dispatching.Given as goal

abbrev pub decreases-dispatch_by : goal.decreases-dispatch_by
decreases-dispatch_by g l = 7 * l.room + 6

abbrev pub decreases-within : goal.decreases-within
decreases-within g l = 7 * l.room + 5

abbrev pub decreases-respond : goal.decreases-respond
decreases-respond g l = 7 * l.room + 4

abbrev pub decreases-turns : goal.decreases-turns
decreases-turns g l = 7 * l.room + 3

abbrev pub decreases-turn : goal.decreases-turn
decreases-turn g l = 7 * l.room + 2

abbrev pub decreases-stepped : goal.decreases-stepped
decreases-stepped g l = 7 * l.room + 1

abbrev pub decreases-asked_for : goal.decreases-asked_for
decreases-asked_for g l = 7 * l.room

abbrev pub invariant-turns-loop-ended : goal.invariant-turns-loop-ended
invariant-turns-loop-ended g l =
    let m = g.M.Machine in
    TurnsOn m.state m.frame m.ran (site_of l.fn.site) l.room l.place l.fn.machine l.machine l.number × (l.site ≡ l.fn.site)

abbrev pub decreases-turns-loop-ended : goal.decreases-turns-loop-ended
decreases-turns-loop-ended g l = MAX_CALLS - (g.M.Machine.state l.machine).exchange.calls
