use Rattle.std.proofs.Common.{◌≡◌, length, ap, subst, sym, ◌∙◌}
use Rattle.sv_container.proofs.Counting.{stops_all}
use Rattle.sv_context.specs.Room.{HasRoomToStop}
use Rattle.sv_run.specs.Host.{state_of}
use Rattle.sv_container.proofs.container.Container.shutdown.Goals as goal

pub undeploy_all-requires : goal.undeploy_all-requires
undeploy_all-requires g c =
    let container = c.args.self in
    let state = state_of container.host in
    let count : length c.contexts_to_stop-contexts.result.items ≡ length state.world.contexts =
    ap length c.contexts_to_stop-contexts.ensures ∙ stops_all state.stopped state.world.contexts in
    subst (λ n. HasRoomToStop n container.stop) (sym count) container.room_to_stop
