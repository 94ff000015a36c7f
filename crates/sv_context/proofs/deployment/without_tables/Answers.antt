use Rattle.sv_context.proofs.Deployments.{mismatch_so, no_memory_so}
use Rattle.sv_context.proofs.deployment.without_tables.Goals as goal
use Rattle.sv_context.proofs.deployment.without_tables.Goals.{then-fits, else-fits}
use Rattle.sv_component.specs.Steps.{steps_of}

pub returns : goal.returns
returns g c = λ journal.
    elim c.if-fits.branch [
      | then-fits w ↦ no_memory_so (steps_of g.S.Servlet.servlet_step g.F.Filter.filter_step g.L.Listener.listener_step) c.args.deployment c.web_app.result.now c.fits.result c.if-fits.fault journal
          c.web_app.ensures.value c.fits.ensures w.if-fits.true w.fault-is
      | else-fits w ↦ mismatch_so (steps_of g.S.Servlet.servlet_step g.F.Filter.filter_step g.L.Listener.listener_step) c.args.deployment c.web_app.result.now c.fits.result c.if-fits.fault journal
          c.web_app.ensures.value c.fits.ensures w.if-fits.false w.fault-is
    ]
