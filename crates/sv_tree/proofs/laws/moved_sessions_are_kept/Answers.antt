use Rattle.std.proofs.Common.{sym, subst}
use Rattle.sv_session.specs.Expiry.{HasNoneExpired}
use Rattle.sv_tree.proofs.Moving.{moved_find_none}
use Rattle.sv_tree.proofs.laws.moved_sessions_are_kept.Goals as goal

pub returns-clause-unexpired : goal.returns-clause-unexpired
returns-clause-unexpired c before after moved none =
    subst (λ now. HasNoneExpired now after.store) (sym moved.moment)
    (c.components_keep_the_sessions.ensures.unexpired before.moment before.store after.store moved.sessions none)

pub returns-clause-callers : goal.returns-clause-callers
returns-clause-callers c before after moved = c.components_keep_the_sessions.ensures.callers before.moment before.store after.store moved.sessions

pub returns-clause-found : goal.returns-clause-found
returns-clause-found c before after moved orderly =
    moved_find_none c.callers_are_entered.ensures.found c.components_keep_the_sessions.ensures.order c.components_keep_the_sessions.ensures.callers
    before after moved orderly
