use Rattle.std.proofs.Common.{◌≡◌, length, sym, subst}
use Rattle.sv_container.proofs.Moving.{count_kept, paths_kept}
use Rattle.sv_container.specs.Paths.{ArePermitted}
use Rattle.sv_context.specs.Room.{HasRoomToStop}
use Rattle.sv_container.proofs.container.Container.step.Goals as goal
use Rattle.sv_component.specs.Steps.{steps_of}

pub invariant_of-self : goal.invariant_of-self
invariant_of-self g c =
    let container = c.args.self.now in
    let before = container.host.contexts in
    let after = c.step.new.self.contexts in
    let paths = paths_kept (steps_of g.S.Servlet.servlet_step g.F.Filter.filter_step g.L.Listener.listener_step) before after c.step.ensures.alters in
    let count : length after ≡ length before =
    count_kept (steps_of g.S.Servlet.servlet_step g.F.Filter.filter_step g.L.Listener.listener_step) before after c.step.ensures.alters in record {
      permitted = subst ArePermitted (sym paths) container.permitted;
      room_to_stop = subst (λ n. HasRoomToStop n container.stop) (sym count) container.room_to_stop;
    }
