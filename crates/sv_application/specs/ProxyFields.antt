-- The fields that a proxy reads in a response, and calls of components that leave them.
use Rattle.std.specs.Prelude.{◌≡◌, ℕ, List, codes, Option}
use Rattle.sv_component.specs.Call.{Call, Serviced, Entered, Left}
use Rattle.sv_exchange.specs.Fields.{first_value}
use Rattle.sv_exchange.specs.State.{State}
use Rattle.sv_message.specs.declared.field.Field.{Field}

pub record ProxyFields : Type 0 where
  pub internal : Option (List ℕ)
  pub target : Option (List ℕ)
  pub caller : Option (List ℕ)
  pub roles : Option (List ℕ)
  pub cookies : Option (List ℕ)

abbrev pub proxy_fields : List Field → ProxyFields
proxy_fields fields = record {
  internal = first_value (codes "x-accel-redirect") fields;
  target = first_value (codes "x-application-target") fields;
  caller = first_value (codes "x-application-caller") fields;
  roles = first_value (codes "x-application-roles") fields;
  cookies = first_value (codes "x-application-cookie") fields;
}

-- they are the same
abbrev pub SameProxyFields : State → State → Type 0
SameProxyFields before after = proxy_fields after.fields ≡ proxy_fields before.fields

-- this holds of the exchange before and after the call, if the call has one
abbrev pub OnExchange : (State → State → Type 0) → Call → Type 0
OnExchange Holds (Serviced before turn step after) = Holds before after
OnExchange Holds (Entered before gate after) = Holds before after
OnExchange Holds (Left before done after) = Holds before after
OnExchange Holds call = Unit {0}
