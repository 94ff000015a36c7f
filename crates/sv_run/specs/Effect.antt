-- The effects of an event. Effects are joined in order.
use Rattle.std.specs.Prelude.{ℕ, Bool, true, false, ◌||◌, List, [], ◌∷◌, ◌++◌, length, Option, None, Some, Result}
use Rattle.std.specs.Option.{option_or}
use Rattle.sv_journal.specs.Journal.{JournalState}
use Rattle.sv_journal.specs.declared.entry.Entry.{Entry}
use Rattle.sv_message.specs.declared.message.Message.{Message}
use Rattle.sv_message.specs.declared.response.Response.{Response}
use Rattle.sv_policy.specs.declared.edit_fault.EditFault.{EditFault}
use Rattle.sv_run.specs.Accesses.{context_access, logged_request, own_access}
use Rattle.sv_run.specs.Contexts.{Handling}
use Rattle.sv_run.specs.declared.access.Access.{Access}
use Rattle.sv_run.specs.declared.happening.Reaction.{Reaction}

-- the deed for a message: the container answered it itself, with that entry, or the context at a place handled it
pub data Deed (Context : Type 0) : Type 0 where
  Answered : Entry → Deed Context
  Handled : ℕ → Handling Context → Deed Context

-- the bytes for the connection and whether it closes, the entries of the journal, the deed of each message, the answer to
-- an edit, and the access of each message
pub record Effect (Context : Type 0) : Type 0 where
  pub sends : List ℕ
  pub closes : Bool
  pub journal : List Entry
  pub deeds : List (Deed Context)
  pub edited : Option (Result ℕ EditFault)
  pub accesses : List Access

abbrev pub whole : List Entry → JournalState
whole entries = record { entries = entries; whole = true }

-- the journal with entries appended
abbrev pub noting : List Entry → JournalState → JournalState
noting entries journal = record journal { entries = journal.entries ++ entries }

module _ {Context : Type 0} where
  -- the reaction that shows an effect
  abbrev pub shown : Effect Context → Reaction
  shown effect = record { sends = effect.sends; closes = effect.closes; journal = whole effect.journal; edited = effect.edited }

  abbrev pub nothing : Effect Context
  nothing = record { sends = []; closes = false; journal = []; deeds = []; edited = None; accesses = [] }

  -- an effect that only sends bytes
  abbrev pub sending : List ℕ → Effect Context
  sending bytes = record nothing { sends = bytes }

  -- an effect that only has entries
  abbrev pub telling : List Entry → Effect Context
  telling entries = record nothing { journal = entries }

  -- an effect that only closes the connection
  abbrev pub closing : Effect Context
  closing = record nothing { closes = true }

  -- an effect that only answers an edit
  abbrev pub editing : Result ℕ EditFault → Effect Context
  editing answer = record nothing { edited = Some answer }

  -- the effect of a message that the container answered itself with this response, or of bytes that were no message
  abbrev pub answered : Option Message → Response → Entry → List ℕ → Bool → Effect Context
  answered asked response entry text closes = record nothing {
    sends = text;
    closes = closes;
    journal = entry ∷ [];
    deeds = Answered entry ∷ [];
    accesses = own_access asked response.status (length text) ∷ [];
  }

  -- the effect of a message, with this caller, that the context at a place handled
  abbrev pub handled : ℕ → Option ℕ → Handling Context → List ℕ → Bool → Effect Context
  handled place caller handling text closes = record nothing {
    sends = text;
    closes = closes;
    journal = handling.entries;
    deeds = Handled place handling ∷ [];
    accesses = context_access place caller (logged_request handling.request.message) handling.response.status (length text) (length handling.entries) ∷ [];
  }

  -- one effect followed by another; the first answer to an edit counts
  abbrev pub joined : Effect Context → Effect Context → Effect Context
  joined first second =
      record {
        sends = first.sends ++ second.sends;
        closes = first.closes || second.closes;
        journal = first.journal ++ second.journal;
        deeds = first.deeds ++ second.deeds;
        edited = option_or first.edited second.edited;
        accesses = first.accesses ++ second.accesses;
      }

  abbrev pub joined_all : List (Effect Context) → Effect Context
  joined_all [] = nothing
  joined_all (effect ∷ effects) = joined effect (joined_all effects)
