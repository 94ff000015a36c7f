use Rattle.std.proofs.Common.{[], ◌-◌, refl}
use Rattle.sv_component.specs.Runs.{IsRun}
use Rattle.sv_dispatch.specs.Running.{state_of}
use Rattle.sv_tree.specs.SiteOfDescriptor.{site_of}
use Rattle.sv_tree.specs.declared.limits.TheConstants.{MAX_NESTING}
use Rattle.sv_dispatch.proofs.LiveDeeds.{not_begun}
use Rattle.sv_dispatch.proofs.live_dispatch.dispatch.Goals as goal

pub returns-then-not-whole-clause-does : goal.returns-then-not-whole-clause-does
unfolding IsRun
returns-then-not-whole-clause-does g c = record {
  made = [];
  is_tree = not_begun (site_of c.args.site.now) (MAX_NESTING - 1) c.args.kind c.args.canon.now (state_of c.args.live.now c.args.exchange.now);
  runs = refl;
  servlets = refl;
  filters = refl;
  listeners = refl;
  context = refl;
  initialised = refl;
}
