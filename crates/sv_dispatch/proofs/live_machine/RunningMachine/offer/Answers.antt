use Rattle.std.proofs.Common.{[], refl, sym, subst, append-nil}
use Rattle.sv_component.specs.Runs.{IsRun}
use Rattle.sv_component.specs.Steps.{steps_of}
use Rattle.sv_dispatch.specs.Seen.{offers}
use Rattle.sv_live.specs.Standing.{live_world}
use Rattle.sv_dispatch.proofs.RunningDeeds.{at, offered}
use Rattle.sv_dispatch.proofs.live_machine.RunningMachine.offer.Goals as goal

pub returns : goal.returns
returns g c = record {
  made = [];
  does_so = subst (λ result. offers c.args.bytes.now (at c.args.self.now.live.now.standings c.args.self.now.exchange.now) []
      (at c.args.self.now.live.now.standings c.write_shared.new.self) result) (sym c.offer.ensures)
      (offered c.args.bytes.now c.args.self.now.exchange.now c.write_shared.new.self c.args.self.now.live.now.standings c.write_shared.result c.write_shared.ensures.does);
  runs = λ from done so_far.
      subst (λ calls. IsRun (steps_of g.S.Servlet.servlet_step g.F.Filter.filter_step g.L.Listener.listener_step) (live_world from.live.now from.journal.now) calls
      (live_world c.args.self.now.live.now c.args.self.now.journal.now)) (sym (append-nil done)) so_far;
  stays = refl;
}
