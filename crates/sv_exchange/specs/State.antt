-- An exchange as contracts see it (Jakarta Servlet 6.0, chapters 3, 5, 7, 9, 10 and 11). It holds the request and its
-- context, whether the client reads chunks, and the active dispatches. It holds the response so far, as the pieces up
-- to the last flush and the bytes written since. It also holds the number of calls of `before` and `service`, the error
-- that the response will report, and the session with its pending events.
use Rattle.std.specs.Prelude.{ℕ, Bool, List, Option}
use Rattle.sv_message.specs.declared.field.Field.{Field}
use Rattle.sv_session.specs.declared.event.Event.{Event}
use Rattle.sv_realm.specs.declared.caller.Caller.{Caller}
use Rattle.sv_session.specs.Store.{Store}
use Rattle.sv_message.specs.declared.cookie_settings.CookieSettings.{CookieSettings}
use Rattle.sv_message.specs.declared.response.Cookie.{Cookie}
use Rattle.sv_exchange.specs.declared.attributes.Attribute.{Attribute}
use Rattle.sv_exchange.specs.declared.dispatch.Dispatch.{Dispatch}
use Rattle.sv_exchange.specs.Paths.{Paths}
use Rattle.sv_exchange.specs.declared.error.KeptError.{KeptError}

pub record State : Type 0 where
  pub method : List ℕ
  pub context_path : List ℕ
  pub cookie_settings : CookieSettings
  pub request_fields : List Field
  pub body : List ℕ
  pub moment : ℕ
  pub reads_chunks : Bool
  pub client : Paths
  pub dispatches : List Dispatch
  pub attributes : List Attribute
  pub status : ℕ
  pub fields : List Field
  pub flushed : List (List ℕ)
  pub buffer : List ℕ
  pub committed : Bool
  pub broken : Bool
  pub calls : ℕ
  pub kept : Option KeptError
  pub words : ℕ × ℕ
  pub store : Store
  pub session : Option ℕ
  pub caller : Option Caller
  pub cookie : Option Cookie
  pub events : List Event
