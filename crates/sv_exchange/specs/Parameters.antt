-- The parameters of a request (Jakarta Servlet 6.0, sections 3.1 and 9.1.1).
use Rattle.std.specs.Prelude.{ℕ, List, [], ◌++◌, reverse, codes, Option, None, Some}
use Rattle.std.specs.List.{flat_map}
use Rattle.sv_message.specs.Form.{form_parameters}
use Rattle.sv_message.specs.Parameters.{first_named, parameters_of}
use Rattle.sv_exchange.specs.declared.dispatch.Dispatch.{Dispatch}
use Rattle.sv_exchange.specs.Fields.{first_value}
use Rattle.sv_exchange.specs.State.{State}

-- The parameters of an optional query.
abbrev pub query_parameters : Option (List ℕ) → List (List ℕ × List ℕ)
query_parameters None = []
query_parameters (Some query) = parameters_of query

abbrev pub dispatch_parameters : Dispatch → List (List ℕ × List ℕ)
dispatch_parameters dispatch = query_parameters dispatch.paths.query

-- The parameters of the body, if it is a form.
abbrev pub body_parameters : State → List (List ℕ × List ℕ)
body_parameters x = form_parameters x.method (first_value (codes "content-type") x.request_fields) x.body

-- The parameters that the client sent: those of its query, then those of its form.
abbrev pub client_parameters : State → List (List ℕ × List ℕ)
client_parameters x = query_parameters x.client.query ++ body_parameters x

-- All parameters. Those of the active dispatches come first, beginning with the innermost.
abbrev pub all_parameters : State → List (List ℕ × List ℕ)
all_parameters x = flat_map dispatch_parameters (reverse x.dispatches) ++ client_parameters x

-- The first value with the name.
abbrev pub parameter_of : List ℕ → State → Option (List ℕ)
parameter_of name x = first_named name (all_parameters x)
