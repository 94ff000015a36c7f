use Rattle.std.proofs.Common.{ap, ◌∙◌}
use Rattle.sv_deployments.proofs.Fitting.{filters_fit, listeners_fit, servlets_fit}
use Rattle.sv_deployments.proofs.parts.parts_of.Goals as goal

pub returns-clause-fits : goal.returns-clause-fits
returns-clause-fits c = record {
  servlets = servlets_fit c.args.descriptor.now.servlets c.as_slice.result.now c.in_ok-servlets.servlets c.into_vec.result.items
      (c.as_slice.ensures ∙ ap (λ app. app.servlets) c.web_app-app.ensures.value) c.in_ok-servlets.ensures c.into_vec.ensures;
  filters = filters_fit c.args.descriptor.now.filters c.as_slice-2.result.now c.in_ok-filters.filters c.into_vec-2.result.items
      (c.as_slice-2.ensures ∙ ap (λ app. app.filters) c.web_app-app.ensures.value) c.in_ok-filters.ensures c.into_vec-2.ensures;
  listeners = listeners_fit c.args.descriptor.now.listeners c.as_slice-3.result.now c.in_ok-listeners.listeners c.into_vec-3.result.items
      (c.as_slice-3.ensures ∙ ap (λ app. app.listeners) c.web_app-app.ensures.value) c.in_ok-listeners.ensures c.into_vec-3.ensures;
}
