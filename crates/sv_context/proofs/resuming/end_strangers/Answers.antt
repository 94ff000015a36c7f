use Rattle.std.proofs.Common.{◌≡◌, ◌-◌, ◌<◌, ℕ, None, Some, sym, ap, ◌∙◌, subst}
use Rattle.sv_component.specs.Steps.{steps_of}
use Rattle.sv_context.proofs.Resumptions.{Progress, all_passed, is_numbered_so, nearer, nothing_passed, one_ends, one_goes_on}
use Rattle.sv_context.specs.Resuming.{caller_now}
use Rattle.sv_session.specs.Calls.{ending, with_caller, without}
use Rattle.sv_session.specs.Store.{Session, SessionsState}
use Rattle.sv_context.proofs.resuming.end_strangers.Goals as goal

pub loop-session-init : goal.loop-session-init
loop-session-init g c =
    nothing_passed (steps_of g.S.Servlet.servlet_step g.F.Filter.filter_step g.L.Listener.listener_step) c.args.users.now c.args.earlier.now c.args.live.now
    c.args.sessions.now.store c.args.journal.now c.serial-serial.ensures.order

pub loop-session-smaller-in-Some-caller_now : goal.loop-session-smaller-in-Some-caller_now
loop-session-smaller-in-Some-caller_now g c =
    let nearest = nearer (steps_of g.S.Servlet.servlet_step g.F.Filter.filter_step g.L.Listener.listener_step) c.args.users.now c.args.earlier.now c.args.live.now
    c.args.sessions.now.store c.args.journal.now c.loop-session.number c.loop-session.live c.loop-session.sessions.store c.loop-session.journal c.loop-session.invariant
    c.in-Some.session.now c.in-Some.ensures in
    subst (λ (number : ℕ). c.args.sessions.now.store.serial - number < c.args.sessions.now.store.serial - c.loop-session.number)
    (sym (ap (λ (session : Session). session.number) c.session.view_is)) nearest

pub loop-session-preserved-in-Some-caller_now : goal.loop-session-preserved-in-Some-caller_now
loop-session-preserved-in-Some-caller_now g c =
    let moving = steps_of g.S.Servlet.servlet_step g.F.Filter.filter_step g.L.Listener.listener_step in
    let session = c.in-Some.session.now in
    let numbered : c.session.inside.number ≡ session.number = ap (λ (one : Session). one.number) c.session.view_is in
    let caller = c.in-Some-caller_now.caller in
    let is : Some caller ≡ caller_now c.args.users.now c.args.earlier.now session.caller =
    c.in-Some-caller_now.ensures ∙ ap (λ (one : Session). caller_now c.args.users.now c.args.earlier.now one.caller) c.session.view_is in
    let store = c.loop-session.sessions.store in
    let left : c.enter_caller-found.new.self.store ≡ with_caller session.number caller store =
    ap (λ (state : SessionsState). state.store) c.enter_caller-found.ensures.left ∙ ap (λ number. with_caller number caller store) numbered in
    subst (λ (number : ℕ). Progress moving c.args.users.now c.args.earlier.now c.args.live.now c.args.sessions.now.store c.args.journal.now number
    c.loop-session.live c.enter_caller-found.new.self.store c.loop-session.journal) (sym numbered)
    (one_goes_on moving c.args.users.now c.args.earlier.now c.args.live.now c.args.sessions.now.store c.args.journal.now c.loop-session.number c.loop-session.live
    store c.loop-session.journal c.loop-session.invariant session c.in-Some.ensures caller is c.enter_caller-found.new.self.store left)

pub loop-session-smaller-in-Some-end : goal.loop-session-smaller-in-Some-end
loop-session-smaller-in-Some-end g c =
    let nearest = nearer (steps_of g.S.Servlet.servlet_step g.F.Filter.filter_step g.L.Listener.listener_step) c.args.users.now c.args.earlier.now c.args.live.now
    c.args.sessions.now.store c.args.journal.now c.loop-session.number c.loop-session.live c.loop-session.sessions.store c.loop-session.journal c.loop-session.invariant
    c.in-Some.session.now c.in-Some.ensures in
    subst (λ (number : ℕ). c.args.sessions.now.store.serial - number < c.args.sessions.now.store.serial - c.loop-session.number)
    (sym (ap (λ (session : Session). session.number) c.session.view_is)) nearest

pub loop-session-preserved-in-Some-end : goal.loop-session-preserved-in-Some-end
loop-session-preserved-in-Some-end g c =
    let moving = steps_of g.S.Servlet.servlet_step g.F.Filter.filter_step g.L.Listener.listener_step in
    let session = c.in-Some.session.now in
    let numbered : c.session.inside.number ≡ session.number = ap (λ (one : Session). one.number) c.session.view_is in
    let is : None ≡ caller_now c.args.users.now c.args.earlier.now session.caller =
    c.in-None.ensures ∙ ap (λ (one : Session). caller_now c.args.users.now c.args.earlier.now one.caller) c.session.view_is in
    let store = c.loop-session.sessions.store in
    let left : c.end.new.self.store ≡ without session.number store =
    ap (λ (state : SessionsState). state.store) c.in-Some-end.ensures.left ∙ ap (λ number. without number store) numbered in
    let found : Some c.in-Some-end.ended ≡ ending session.number store = c.in-Some-end.ensures.ended ∙ ap (λ number. ending number store) numbered in
    subst (λ (number : ℕ). Progress moving c.args.users.now c.args.earlier.now c.args.live.now c.args.sessions.now.store c.args.journal.now number
    c.tell_end.new.self c.end.new.self.store c.tell_end.new.journal) (sym numbered)
    (one_ends moving c.args.users.now c.args.earlier.now c.args.live.now c.args.sessions.now.store c.args.journal.now c.loop-session.number c.loop-session.live
    store c.loop-session.journal c.loop-session.invariant session c.in-Some.ensures is c.end.new.self.store left c.in-Some-end.ended found
    c.tell_end.new.self c.tell_end.new.journal c.tell_end.ensures.made c.tell_end.ensures.stands)

pub loop-session-smaller : goal.loop-session-smaller
loop-session-smaller g c =
    let nearest = nearer (steps_of g.S.Servlet.servlet_step g.F.Filter.filter_step g.L.Listener.listener_step) c.args.users.now c.args.earlier.now c.args.live.now
    c.args.sessions.now.store c.args.journal.now c.loop-session.number c.loop-session.live c.loop-session.sessions.store c.loop-session.journal c.loop-session.invariant
    c.in-Some.session.now c.in-Some.ensures in
    subst (λ (number : ℕ). c.args.sessions.now.store.serial - number < c.args.sessions.now.store.serial - c.loop-session.number)
    (sym (ap (λ (session : Session). session.number) c.session.view_is)) nearest

-- The session is there, so its end is found.
pub loop-session-preserved : goal.loop-session-preserved
loop-session-preserved g c =
    let moving = steps_of g.S.Servlet.servlet_step g.F.Filter.filter_step g.L.Listener.listener_step in
    let session = c.in-Some.session.now in
    let store = c.loop-session.sessions.store in
    let numbered : c.session.inside.number ≡ session.number = ap (λ (one : Session). one.number) c.session.view_is in
    let found = is_numbered_so moving c.args.users.now c.args.earlier.now c.args.live.now c.args.sessions.now.store c.args.journal.now c.loop-session.number c.loop-session.live
    store c.loop-session.journal c.loop-session.invariant session c.in-Some.ensures in
    let missing : None ≡ ending session.number store = c.in_default-end.ensures.ended ∙ ap (λ number. ending number store) numbered in
    absurd (let both = missing ∙ found in cc)

pub returns : goal.returns
returns g c =
    all_passed (steps_of g.S.Servlet.servlet_step g.F.Filter.filter_step g.L.Listener.listener_step) c.args.users.now c.args.earlier.now c.args.live.now
    c.args.sessions.now.store c.args.journal.now c.loop-session.number c.loop-session.live c.loop-session.sessions.store c.loop-session.journal c.loop-session.invariant
    c.in_default.ensures
