use Rattle.std.proofs.Common.{◌-◌}
use Rattle.sv_component.specs.Steps.{steps_of}
use Rattle.sv_context.proofs.Resumptions.{Progress}
use Rattle.sv_context.proofs.resuming.end_strangers.Given as goal

abbrev pub invariant-loop-session : goal.invariant-loop-session
invariant-loop-session g l =
    Progress (steps_of g.S.Servlet.servlet_step g.F.Filter.filter_step g.L.Listener.listener_step) l.fn.users l.fn.earlier
    l.initial.live l.initial.sessions.store l.initial.journal l.number l.live l.sessions.store l.journal

abbrev pub decreases-loop-session : goal.decreases-loop-session
decreases-loop-session g l = l.initial.sessions.store.serial - l.number
