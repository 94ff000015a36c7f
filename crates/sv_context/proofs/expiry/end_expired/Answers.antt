use Rattle.std.proofs.Common.{ap, sym, subst}
use Rattle.sv_session.specs.Store.{SessionsState, Store}
use Rattle.sv_context.specs.Expiry.{Expires}
use Rattle.sv_context.proofs.Expiries.{all_expired, components_stay, fewer, left_same, nothing_yet, one_more_told}
use Rattle.sv_context.specs.State.{context_of}
use Rattle.sv_context.proofs.expiry.end_expired.Goals as goal
use Rattle.sv_component.specs.Steps.{steps_of}

pub loop-session-init : goal.loop-session-init
loop-session-init g c = record {
  so_far = λ content policy users components.
      nothing_yet (steps_of g.S.Servlet.servlet_step g.F.Filter.filter_step g.L.Listener.listener_step) c.args.moment (context_of content policy users c.args.live.now c.args.sessions.now.store) c.args.journal.now;
  components = λ content components. components;
}

pub loop-session-preserved : goal.loop-session-preserved
loop-session-preserved g c = record {
  so_far = λ content policy users components.
      one_more_told (steps_of g.S.Servlet.servlet_step g.F.Filter.filter_step g.L.Listener.listener_step) c.args.moment (context_of content policy users c.args.live.now c.args.sessions.now.store) c.args.journal.now
      content policy users c.loop-session.live c.tell_end.new.self c.loop-session.sessions.store c.expire.new.self.store c.loop-session.journal c.tell_end.new.journal
      (c.loop-session.invariant.so_far content policy users components) (c.loop-session.invariant.components content components)
      c.in-Some.session c.in-Some.ensures.ended (ap (λ (state : SessionsState). state.store) c.in-Some.ensures.left) c.tell_end.ensures.made c.tell_end.ensures.stands;
  components = λ content components. components_stay content c.loop-session.live c.tell_end.new.self (c.loop-session.invariant.components content components) c.tell_end.ensures.stands;
}

pub loop-session-smaller : goal.loop-session-smaller
loop-session-smaller g c =
    fewer c.args.moment c.loop-session.sessions.store c.expire.new.self.store c.in-Some.session c.in-Some.ensures.ended (ap (λ (state : SessionsState). state.store) c.in-Some.ensures.left)

pub returns-clause-expires : goal.returns-clause-expires
returns-clause-expires g c = λ content policy users components.
    let before = context_of content policy users c.args.live.now c.args.sessions.now.store in
    subst (λ (last : Store). Expires (steps_of g.S.Servlet.servlet_step g.F.Filter.filter_step g.L.Listener.listener_step) c.args.moment before c.args.journal.now (context_of content policy users c.loop-session.live last) c.loop-session.journal)
    (sym (left_same c.args.moment c.loop-session.sessions.store c.expire.new.self.store c.in_default.ensures.ended (ap (λ (state : SessionsState). state.store) c.in_default.ensures.left)))
    (all_expired (steps_of g.S.Servlet.servlet_step g.F.Filter.filter_step g.L.Listener.listener_step) c.args.moment before c.args.journal.now (context_of content policy users c.loop-session.live c.loop-session.sessions.store) c.loop-session.journal
    (c.loop-session.invariant.so_far content policy users components) c.in_default.ensures.ended)
