use Rattle.sv_live.proofs.ByPlace.{retires}
use Rattle.sv_live.proofs.live.Live.retire.Goals as goal
use Rattle.sv_component.specs.Steps.{steps_of}

pub returns : goal.returns
returns g c =
    retires (steps_of g.S.Servlet.servlet_step g.F.Filter.filter_step g.L.Listener.listener_step) c.args.self.now _ c.as_str.result.now c.args.journal.now c.args.place c.destroy.new.self c.destroy.new.journal
    c.self.view_is c.as_str.ensures c.destroy.ensures.moves c.destroy.ensures.counts
