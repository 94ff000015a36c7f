-- The components that a descriptor declares (Jakarta Servlet 6.0, section 14.4).
use Rattle.std.specs.Prelude.{ℕ, ◌+◌, List, [], ◌∷◌, Result, Ok, Err}
use Rattle.std.specs.Option.{ok_or}
use Rattle.sv_text.specs.Steps.{◌>>=◌}
use Rattle.sv_component.specs.declared.components.Named.{Named}
use Rattle.sv_descriptor.specs.declared.filter.FilterEntry.{FilterEntry}
use Rattle.sv_descriptor.specs.declared.listener.ListenerEntry.{ListenerEntry}
use Rattle.sv_descriptor.specs.declared.servlet.ServletEntry.{ServletEntry}
use Rattle.sv_descriptor.specs.declared.web_app.WebApp.{WebApp}
use Rattle.sv_live.specs.declared.live.Parts as lifecycle
use Rattle.sv_deployments.specs.declared.class_fault.ClassFault.{ClassFault}
use Rattle.sv_deployments.specs.declared.class_fault.ClassFault.TheVariants.{UnknownClass}
use Rattle.sv_deployments.specs.declared.component_place.ComponentPlace.TheVariants as at
use Rattle.sv_deployments.specs.FilterClasses.{new_filter}
use Rattle.sv_deployments.specs.ListenerClasses.{new_listener}
use Rattle.sv_deployments.specs.ServletClasses.{new_servlet}
use Rattle.sv_deployments.specs.declared.program_filter.ProgramFilter.{ProgramFilter}
use Rattle.sv_deployments.specs.declared.program_listener.ProgramListener.{ProgramListener}
use Rattle.sv_deployments.specs.declared.program_servlet.ProgramServlet.{ProgramServlet}

-- a result, or the first class that the program does not have
abbrev pub Made : Type 0 → Type 0
Made A = Result A ClassFault

-- the results of a step for all items, which are counted from this place on, in order, or the first fault
abbrev pub each_from : {A B E : Type 0} → (ℕ → A → Result B E) → ℕ → List A → Result (List B) E
each_from step place [] = Ok []
each_from step place (a ∷ rest) = do
  b ← step place a
  bs ← each_from step (place + 1) rest
  Ok (b ∷ bs)

-- a new servlet of the class, with its name
abbrev pub servlet_of : ℕ → ServletEntry → Made (Named ProgramServlet)
servlet_of place entry = do
  servlet ← ok_or (new_servlet entry.servlet_class) (UnknownClass entry.servlet_class (at.Servlet place))
  Ok (record { name = entry.servlet_name; component = servlet })

-- a new filter of the class, with its name
abbrev pub filter_of : ℕ → FilterEntry → Made (Named ProgramFilter)
filter_of place entry = do
  filter ← ok_or (new_filter entry.filter_class) (UnknownClass entry.filter_class (at.Filter place))
  Ok (record { name = entry.filter_name; component = filter })

-- a new listener of the class
abbrev pub listener_of : ℕ → ListenerEntry → Made ProgramListener
listener_of place entry = ok_or (new_listener entry.listener_class) (UnknownClass entry.listener_class (at.Listener place))

-- the components of a context as lists
pub record Components : Type 0 where
  pub servlets : List (Named ProgramServlet)
  pub filters : List (Named ProgramFilter)
  pub listeners : List ProgramListener

-- the components of a descriptor, in order; if classes are unknown, the result is the first one of a servlet, else of a
-- filter, else of a listener
abbrev pub components_of : WebApp → Made Components
components_of app = do
  its_servlets ← each_from servlet_of 0 app.servlets
  its_filters ← each_from filter_of 0 app.filters
  its_listeners ← each_from listener_of 0 app.listeners
  Ok (record { servlets = its_servlets; filters = its_filters; listeners = its_listeners })

abbrev pub components : lifecycle.Parts ProgramServlet ProgramFilter ProgramListener → Components
components parts = record { servlets = parts.servlets.items; filters = parts.filters.items; listeners = parts.listeners.items }

-- a result, with a view of its value
abbrev pub seen : {A B E : Type 0} → (A → B) → Result A E → Result B E
seen view (Ok a) = Ok (view a)
seen view (Err fault) = Err fault
