-- A message as its context receives it (Jakarta Servlet 6.0, section 3.5).
use Rattle.std.specs.Prelude.{ℕ}
use Rattle.sv_uri.specs.declared.path.Canon.{Canon}
use Rattle.sv_message.specs.declared.message.Message.{Message}
use Rattle.sv_exchange.specs.declared.request.Request.{Request}

pub record Asked : Type 0 where
  pub message : Message
  -- The path in the context, with the query.
  pub canon : Canon
  -- The time of the message, in seconds since 1970.
  pub moment : ℕ
  -- The two random words of the message.
  pub words : ℕ × ℕ

abbrev pub asked_by : Message → Canon → ℕ → ℕ × ℕ → Asked
asked_by message canon moment words = record { message = message; canon = canon; moment = moment; words = words }

-- A request, as contracts see it.
abbrev pub asked_in : Request → Asked
asked_in request = asked_by request.message.now request.canon.now request.moment request.words
