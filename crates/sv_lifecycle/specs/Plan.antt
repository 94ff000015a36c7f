-- The plan of a start: the components in order, their configurations, and the initial availability of the servlets.
use Rattle.std.specs.Prelude.{◌≡◌, ℕ, List, length, map, replicate}
use Rattle.sv_descriptor.specs.declared.web_app.WebApp.{WebApp}
use Rattle.sv_lifecycle.specs.Calls.{config_at}
use Rattle.sv_lifecycle.specs.Order.{IsLoadOrder, init_order}
use Rattle.sv_lifecycle.specs.declared.plan.Plan.{Plan}
use Rattle.sv_component.specs.declared.standing.Standing.TheVariants.{Serving}

pub record IsPlan (its_context : List ℕ) (app : WebApp) (plan : Plan) : Type 0 where
  pub loaded : List ℕ
  pub is_order : IsLoadOrder app.servlets loaded
  pub order : plan.order.items ≡ init_order app loaded
  pub configs : plan.configs.items ≡ map (config_at app) plan.order.items
  pub standings : plan.standings.items ≡ replicate (length app.servlets) Serving
  pub context : plan.context ≡ its_context
