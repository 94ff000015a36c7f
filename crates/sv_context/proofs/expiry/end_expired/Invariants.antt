use Rattle.std.proofs.Common.{List, length}
use Rattle.sv_policy.specs.Compiled.{Standing}
use Rattle.sv_realm.specs.declared.account.User.{User}
use Rattle.sv_tree.specs.SiteOfDescriptor.{Content}
use Rattle.sv_context.proofs.Expiries.{SoFar}
use Rattle.sv_context.specs.State.{AreComponentsOf, context_of}
use Rattle.sv_context.proofs.expiry.end_expired.Given as goal
use Rattle.sv_component.specs.Steps.{steps_of}

abbrev pub invariant-loop-session : goal.invariant-loop-session
invariant-loop-session g l = record {
  so_far : (content : Content) (policy : Standing) (users : List User) → AreComponentsOf content l.initial.live
      → SoFar (steps_of g.S.Servlet.servlet_step g.F.Filter.filter_step g.L.Listener.listener_step) l.moment (context_of content policy users l.initial.live l.initial.sessions.store) l.initial.journal
      (context_of content policy users l.live l.sessions.store) l.journal;
  components : (content : Content) → AreComponentsOf content l.initial.live → AreComponentsOf content l.live;
}

abbrev pub decreases-loop-session : goal.decreases-loop-session
decreases-loop-session g l = length l.sessions.store.sessions
