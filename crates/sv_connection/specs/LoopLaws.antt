-- The laws of connections that are served at once.
use Rattle.std.specs.Prelude.{◌≡◌, ℕ, true, List, [], ◌∷◌, ◌++◌, flat_map}
use Rattle.sv_connection.specs.Course.{Along}
use Rattle.sv_connection.specs.Slots.{Action, Ends, EndsUntold, Hands, Leads, Needs, Open, Over, Slot, Reads, Unused, Writes}
use Rattle.sv_connection.specs.States.{ConnectionState}
use Rattle.sv_connection.specs.Ways.{Ways}
use Rattle.sv_connection.specs.declared.close_reason.CloseReason.{CloseReason}
use Rattle.sv_connection.specs.declared.close_reason.CloseReason.TheVariants.{AnswerCloses, GivenUp, PeerEnded, ReadFails, WriteFails}
use Rattle.sv_streams.specs.Calls.{Call, Gave, ReadFailed, Took, WriteFailed, given, taken}

-- The call that ended a connection for this reason, if any.
abbrev pub end_calls : CloseReason → List Call
end_calls PeerEnded = Gave [] ∷ []
end_calls ReadFails = ReadFailed ∷ []
end_calls WriteFails = WriteFailed ∷ []
end_calls AnswerCloses = []
end_calls GivenUp = []

module _ {S : Type 0} where
  abbrev pub calls_of : Action S → List Call
  calls_of (Reads bytes) = Gave bytes ∷ []
  calls_of (Writes bytes) = Took bytes ∷ []
  calls_of (Ends cause stream closing reaction) = end_calls cause
  calls_of (EndsUntold cause stream closing) = end_calls cause
  calls_of other = []

  -- The bytes that an action passes to the handler.
  abbrev pub handed_of : Action S → List ℕ
  handed_of (Hands bytes moment reaction awaited) = bytes
  handed_of other = []

  -- The bytes to send for them.
  abbrev pub sends_of : Action S → List ℕ
  sends_of (Hands bytes moment reaction awaited) = reaction.sends
  sends_of other = []

module _ {S : Type 0} (ways : Ways S) where
  -- The bytes read from an open connection are those passed to the handler and those that wait to be passed. The bytes
  -- to send are those written and those that wait to be written.
  abbrev pub BytesAreKept : Type 0
  BytesAreKept =
      (actions : List (Action S)) (at : ConnectionState S) → Along ways Unused actions (Open at)
      → (given (flat_map calls_of actions) ≡ flat_map handed_of actions ++ at.ahead)
      × (flat_map sends_of actions ≡ taken (flat_map calls_of actions) ++ at.unsent)

  -- A number is over only by its last action, for which its slot then gives a cause.
  abbrev pub EndsHaveACause : Type 0
  EndsHaveACause =
      (actions : List (Action S)) → Along ways Unused actions Over
      → (front : List (Action S)) × (last : Action S) × (place : Slot S)
      × (actions ≡ front ++ last ∷ []) × Along ways Unused front place × Leads ways place last Over

  -- After this end, its number has no action.
  abbrev pub NumbersAreNotUsedAgain : Type 0
  NumbersAreNotUsedAgain = (actions : List (Action S)) (place : Slot S) → Along ways Over actions place → (actions ≡ []) × (place ≡ Over)

  -- A connection that rests needs to be read or written.
  abbrev pub RestIsForSomething : Type 0
  RestIsForSomething = (actions : List (Action S)) (at : ConnectionState S) → Along ways Unused actions (Open at) → at.rests ≡ true → Needs at
