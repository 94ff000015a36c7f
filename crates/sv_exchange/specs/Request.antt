-- Queries on the request message (Jakarta Servlet 6.0, sections 3.1 to 3.5).
use Rattle.std.specs.Prelude.{ℕ, List, Option, codes, slice_get}
use Rattle.std.specs.Option.{option_map}
use Rattle.http_header.specs.Token.{lowercase}
use Rattle.sv_message.specs.declared.field.Field.{Field}
use Rattle.sv_message.specs.Fields.{values_of}
use Rattle.sv_message.specs.Form.{media_type}
use Rattle.sv_exchange.specs.Fields.{first_value}
use Rattle.sv_exchange.specs.State.{State}

-- The value at an index among the fields with the name, in any case.
abbrev pub value_at : List ℕ → ℕ → List Field → Option (List ℕ)
value_at name place fields = slice_get (values_of (lowercase name) fields) place

-- The first Content-Type without its parameters.
abbrev pub media_type_of : State → Option (List ℕ)
media_type_of x = option_map media_type (first_value (codes "content-type") x.request_fields)

-- The path that the client requested, in the context and with the context path in front.
abbrev pub client_path_of : State → List ℕ
client_path_of x = x.client.path

abbrev pub client_uri_of : State → List ℕ
client_uri_of x = x.client.uri
