use Rattle.std.proofs.Common.{ap₂, ◌∙◌}
use Rattle.sv_component.specs.Standing.{standing_now}
use Rattle.sv_dispatch.proofs.RunningDeeds.{stands_at}
use Rattle.sv_dispatch.proofs.live_machine.RunningMachine.standing.Goals as goal

pub returns : goal.returns
returns g c =
    c.at.ensures ∙ ap₂ standing_now c.moment.ensures (c.standing.ensures ∙ stands_at c.args.self.now.live.now.standings c.args.place)
