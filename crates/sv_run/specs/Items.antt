-- Handling the items of a stream, in order (RFC 9112, sections 9.2, 9.3 and 9.6).
use Rattle.std.specs.Prelude.{◌≡◌, ℕ, Bool, true, false, ◌||◌, not, List, [], ◌∷◌, codes, bytes_eq, slice_get, slice_set, None, Some}
use Rattle.std.specs.Bool.{MatchBool}
use Rattle.httpdate.specs.declared.date.HttpDate.{HttpDate}
use Rattle.sv_journal.specs.declared.entry.Entry.TheVariants.{Refused}
use Rattle.sv_journal.specs.declared.refusal_cause.RefusalCause.TheVariants as causes
use Rattle.sv_run.specs.Contexts.{Handling, Theory, request_of}
use Rattle.sv_run.specs.Effect.{Effect, answered, handled, nothing, sending, joined}
use Rattle.sv_run.specs.Messages.{Destination, Itself, Within, destination, plain_response}
use Rattle.sv_run.specs.State.{World}
use Rattle.sv_message.specs.Content.{ends_connection}
use Rattle.sv_wire.specs.ResponseText.{IsDateAt, response_text}
use Rattle.sv_wire.specs.WireFault.{fault_status}
use Rattle.sv_wire.specs.declared.item.Item.{Item}
use Rattle.sv_wire.specs.declared.item.Item.TheVariants.{Continue, Message, Refuse}
use Rattle.sv_message.specs.declared.message.Message.{Message as MessageRecord}
use Rattle.sv_message.specs.declared.response.Response.{Response}
use Rattle.sv_wire.specs.declared.wire_fault.WireFault.{WireFault}

unfoldable pub continue_text : List ℕ
continue_text = codes "HTTP/1.1 100 Continue\r\n\r\n"

-- the text of a response at a time
abbrev pub IsTextAt : ℕ → Response → Bool → Bool → List ℕ → Type 0
IsTextAt moment response head_only keep text = (date : HttpDate) × IsDateAt moment date × (text ≡ response_text response head_only keep date)

-- the text of the response to a message
abbrev pub IsAnswerTo : MessageRecord → ℕ → Response → List ℕ → Type 0
IsAnswerTo message moment response text = IsTextAt moment response (bytes_eq message.method (codes "HEAD")) message.keep text

-- whether the connection closes after the response to a message
abbrev pub closes_behind : MessageRecord → Response → Bool
closes_behind message response = not message.keep || ends_connection response.body

module _ {Context Words : Type 0} (theory : Theory Context Words) (moment : ℕ) where
  -- the context at a place handles a message
  pub record HandlesAt (place : ℕ) (before : List Context) (handling : Handling Context) (after : List Context) : Type 0 where
    pub there : slice_get before place ≡ Some handling.context
    pub handles : theory.conduct.Handles handling
    pub is_after : after ≡ slice_set before place handling.after

  -- a message is answered by the container itself, or by the context at its destination
  abbrev pub Responds : Destination → MessageRecord → ℕ × ℕ → List Context → Effect Context → List Context → Type 0
  Responds (Itself entry response) message words before effect after =
      (text : List ℕ) × IsAnswerTo message moment response text × (effect ≡ answered (Some message) response entry text (closes_behind message response)) × (after ≡ before)
  Responds (Within place canon) message words before effect after =
      (handling : Handling Context) × (text : List ℕ)
      × (handling.request ≡ request_of message canon moment words)
      × HandlesAt place before handling after
      × IsAnswerTo message moment handling.response text
      × (effect ≡ handled place (theory.conduct.caller_of handling.context message) handling text (closes_behind message handling.response))

  -- a message draws a pair of words, no matter what answers it
  abbrev pub TakesMessage : MessageRecord → World Context Words → Effect Context → World Context Words → Type 0
  TakesMessage message before effect after =
      (words : ℕ × ℕ) × theory.Draws before.words words after.words
      × Responds (destination theory before.contexts message.target) message words before.contexts effect after.contexts

  abbrev pub TakesRefusal : WireFault → World Context Words → Effect Context → World Context Words → Type 0
  TakesRefusal fault before effect after =
      (text : List ℕ) × IsTextAt moment (plain_response (fault_status fault)) false false text
      × (effect ≡ answered None (plain_response (fault_status fault)) (Refused (causes.Wire fault)) text true) × (after ≡ before)

  abbrev pub TakesItem : Item → World Context Words → Effect Context → World Context Words → Type 0
  TakesItem Continue before effect after = (effect ≡ sending continue_text) × (after ≡ before)
  TakesItem (Refuse fault) before effect after = TakesRefusal fault before effect after
  TakesItem (Message message) before effect after = TakesMessage message before effect after

  -- no item is handled
  abbrev pub TakesNone : World Context Words → Effect Context → World Context Words → Type 0
  TakesNone before effect after = (effect ≡ nothing) × (after ≡ before)

  -- one item after another, and none after an item that closes the connection
  abbrev pub Takes : List Item → World Context Words → Effect Context → World Context Words → Type 0
  Takes [] before effect after = TakesNone before effect after
  Takes (item ∷ items) before effect after =
      (between : World Context Words) × (first : Effect Context) × (later : Effect Context)
      × TakesItem item before first between
      × MatchBool first.closes (TakesNone between later after) (Takes items between later after)
      × (effect ≡ joined first later)
