use Rattle.sv_dispatch.proofs.RunningDeeds.{here_by_place}
use Rattle.sv_dispatch.proofs.live_machine.RunningMachine.away.Goals as goal

pub away-requires-clause-not_gone : goal.away-requires-clause-not_gone
away-requires-clause-not_gone g c = here_by_place c.args.self.now.live.now.standings c.args.place c.requires.here
