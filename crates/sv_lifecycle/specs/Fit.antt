-- Components that match a descriptor (Jakarta Servlet 6.0, section 14.4).
use Rattle.std.specs.Prelude.{◌≡◌, length, map}
use Rattle.sv_descriptor.specs.Agreement.{filter_names, servlet_names}
use Rattle.sv_descriptor.specs.declared.web_app.WebApp.{WebApp}
use Rattle.sv_live.specs.declared.live.Parts.{Parts}

-- Servlets and filters have the names in the descriptor, in its order, and the number of listeners is the declared one.
pub record Fits {S F L : Type 0} (app : WebApp) (parts : Parts S F L) : Type 0 where
  pub servlets : map (λ named. named.name) parts.servlets.items ≡ servlet_names app
  pub filters : map (λ named. named.name) parts.filters.items ≡ filter_names app
  pub listeners : length parts.listeners.items ≡ length app.listeners
