-- A bound on the texts that the event of a part sends (RFC 9110, section 15.2.1; RFC 9112, sections 2.1, 2.2 and 9.3).
use Rattle.std.specs.Prelude.{◌≡◌, ℕ, ◌+◌, ◌≤◌, false, List, [], ◌∷◌, ◌++◌, length, count_by}
use Rattle.sv_listening.specs.Bound.{AreFew, is_call_to_continue}
use Rattle.sv_run.specs.Connections.{no_connections}
use Rattle.sv_run.specs.Contexts.{Theory}
use Rattle.sv_run.specs.Effect.{Effect}
use Rattle.sv_run.specs.Events.{Accepts, Happening, Piece, moment_after}
use Rattle.sv_run.specs.Items.{IsAnswerTo, IsTextAt, continue_text}
use Rattle.sv_run.specs.Messages.{plain_response}
use Rattle.sv_run.specs.Runs.{Answer, Run}
use Rattle.sv_run.specs.State.{State}
use Rattle.sv_listening.specs.Parts.{IsPart}
use Rattle.sv_wire.specs.WireFault.{fault_status}
use Rattle.sv_wire.specs.declared.item.Item.{Item}
use Rattle.sv_wire.specs.declared.item.Item.TheVariants.{Continue, Message, Refuse}
use Rattle.sv_message.specs.declared.response.Response.{Response}

-- The text for an item: `100 Continue`, the response to a message, or the response to a refusal.
abbrev pub IsTextFor : ℕ → Item → List ℕ → Type 0
IsTextFor moment Continue text = text ≡ continue_text
IsTextFor moment (Message message) text = (response : Response) × IsAnswerTo message moment response text
IsTextFor moment (Refuse fault) text = IsTextAt moment (plain_response (fault_status fault)) false false text

-- The bytes sent are one text for each item, in their order.
abbrev pub AreAnswered : ℕ → List Item → List ℕ → Type 0
AreAnswered moment [] sent = sent ≡ []
AreAnswered moment (item ∷ items) sent =
    (text : List ℕ) × (later : List ℕ) × IsTextFor moment item text × AreAnswered moment items later × (sent ≡ text ++ later)

-- At most two messages, one call to continue and one refusal bring a text, so there are at most four. Each item but the
-- call is one deed, so there are at most three deeds.
pub record IsLittle {Context : Type 0} (moment : ℕ) (effect : Effect Context) : Type 0 where
  pub items : List Item
  pub few : AreFew items
  pub sends : AreAnswered moment items effect.sends
  pub texts : length items ≤ 4
  pub each : length effect.deeds + count_by is_call_to_continue items ≡ length items
  pub deeds : length effect.deeds ≤ 3

module _ {Context Words : Type 0} (theory : Theory Context Words) where
  -- After any run that began without connections, an accepted piece that is a part sends this little.
  abbrev pub AnEventSendsLittle : Type 0
  AnEventSendsLittle =
      (start before after : State Context Words) (happenings : List Happening) (answers : List (Answer Context))
      (number moment : ℕ) (bytes : List ℕ) (effect : Effect Context)
      → start.connections ≡ no_connections → Run theory start happenings answers before
      → IsPart bytes → Accepts theory before (Piece number bytes moment) effect after
      → IsLittle (moment_after before.moment (Piece number bytes moment)) effect
