-- The calls and notifications of a start, and of a start that is undone (Jakarta Servlet 6.0, sections 2.3, 6.2.1 and
-- 11.3).
use Rattle.std.specs.Prelude.{ℕ, Bool, true, false, List, [], ◌++◌, length, map, slice_get, Option, Some, None}
use Rattle.std.specs.List.{filter}
use Rattle.sv_component.specs.Runs.{Record}
use Rattle.sv_component.specs.declared.answers.Init.{Init}
use Rattle.sv_component.specs.declared.answers.Init.TheVariants.{Ready, Unavailable, Failed, NoMemory}
use Rattle.sv_component.specs.declared.config.Config.{Config}
use Rattle.sv_component.specs.declared.config.Param.{Param}
use Rattle.sv_descriptor.specs.declared.filter.FilterEntry.{FilterEntry}
use Rattle.sv_descriptor.specs.declared.init_param.InitParam.{InitParam}
use Rattle.sv_descriptor.specs.declared.servlet.ServletEntry.{ServletEntry}
use Rattle.sv_descriptor.specs.declared.web_app.WebApp.{WebApp}
use Rattle.sv_session.specs.declared.event.Event.TheVariants.{ContextInitialized}
use Rattle.sv_listeners.specs.Telling.{told}
use Rattle.sv_lifecycle.specs.declared.begin.Answered.{Answered}
use Rattle.sv_live.specs.Calls.{init_record, stop_calls}
use Rattle.sv_journal.specs.declared.calls.Place.{Place}
use Rattle.sv_journal.specs.declared.calls.Place.TheVariants.{Filter, Servlet}

abbrev pub params_of : List InitParam → List Param
params_of params = map (λ param. record { name = param.name; value = param.value }) params

-- A name with parameters, from a descriptor.
abbrev pub config_of : List ℕ → List InitParam → Config
config_of its_name its_params = record { name = its_name; params = params_of its_params }

-- The configuration of a filter and of a servlet.
abbrev pub filter_config : Option FilterEntry → Config
filter_config (Some entry) = config_of entry.filter_name entry.init_params
filter_config None = config_of [] []

abbrev pub servlet_config : Option ServletEntry → Config
servlet_config (Some entry) = config_of entry.servlet_name entry.init_params
servlet_config None = config_of [] []

-- The configuration of the component at a place in the descriptor.
abbrev pub config_at : WebApp → Place → Config
config_at app (Filter place) = filter_config (slice_get app.filters place)
config_at app (Servlet place) = servlet_config (slice_get app.servlets place)

abbrev pub places_of : List Answered → List Place
places_of begun = map (λ answered. answered.place) begun

-- The `init` call of a component of the descriptor.
abbrev pub inited : WebApp → Answered → Record
inited app answered = init_record answered.place (config_at app answered.place) answered.answer

-- The calls of a start as far as it went: each listener is notified, and then the `init` of these components is called.
abbrev pub start_calls : WebApp → List Answered → List Record
start_calls app begun = told ContextInitialized (length app.listeners) ++ map (inited app) begun

abbrev pub is_ready : Init → Bool
is_ready Ready = true
is_ready Unavailable = false
is_ready Failed = false
is_ready NoMemory = false

-- The initialized components, whose `init` returned that they are ready.
abbrev pub initialised : List Answered → List Place
initialised begun = places_of (filter (λ answered. is_ready answered.answer) begun)

-- The calls of a start that is undone: the initialized components are stopped, and there are no sessions yet.
abbrev pub undone_calls : WebApp → List Answered → List Record
undone_calls app begun = start_calls app begun ++ stop_calls (length app.listeners) (initialised begun) []

-- Whether the start continues after a result. A servlet may be unavailable, but a filter may not.
abbrev pub lets_go_on : Place → Init → Bool
lets_go_on place Ready = true
lets_go_on (Servlet place) Unavailable = true
lets_go_on (Filter place) Unavailable = false
lets_go_on place Failed = false
lets_go_on place NoMemory = false
