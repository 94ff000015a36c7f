-- Connections served alongside others, as turns of a connection that is served by itself.
use Rattle.std.specs.Prelude.{◌≡◌, ℕ, ◌<◌, false, List, [], ◌∷◌, ◌++◌, flat_map, length, map, Ok}
use Rattle.std.specs.List.{AllByRecursion, concat}
use Rattle.sv_connection.specs.Turns.{GoesOn, Turn, brought, calls_of, piece_of}
use Rattle.sv_connection.specs.Turns as turn
use Rattle.sv_connection.specs.Course.{Along}
use Rattle.sv_connection.specs.LoopLaws.{end_calls}
use Rattle.sv_connection.specs.Notes.{answer_of, event_of, moment_of}
use Rattle.sv_connection.specs.Phases.{is_closing}
use Rattle.sv_connection.specs.Slots.{Action, Ends, EndsUntold, Hands, Open, OpensUntold, Unused, Writes}
use Rattle.sv_connection.specs.States.{ConnectionState}
use Rattle.sv_connection.specs.Ways.{Ways}
use Rattle.sv_run.specs.Events.{Opened}
use Rattle.sv_run.specs.declared.happening.Reaction.{Reaction}
use Rattle.sv_streams.specs.Calls.{Call, Gave, Took}

-- The stream calls of an action, with each read cut into its pieces: a piece that is passed to the handler counts as a
-- read of its own.
abbrev pub cut_calls : {S : Type 0} → Action S → List Call
cut_calls (Hands bytes moment reaction awaited) = Gave bytes ∷ []
cut_calls (Writes bytes) = Took bytes ∷ []
cut_calls (Ends cause stream closing reaction) = end_calls cause
cut_calls other = []

module _ {S : Type 0} where
  -- No turn is under way, and no bytes wait to be written; or one turn is, and the bytes that wait are the rest of its
  -- reaction.
  abbrev pub IsUnderWay : List Turn → ConnectionState S → Type 0
  IsUnderWay [] at = (at.unsent ≡ []) × (is_closing at.phase ≡ false)
  IsUnderWay (turn ∷ []) at =
      (0 < length turn.bytes) × (concat turn.parts ++ at.unsent ≡ turn.reaction.sends) × (turn.reaction.closes ≡ is_closing at.phase)
  IsUnderWay (turn ∷ other ∷ turns) at = ⊥

-- These turns of a connection by itself have the events, results, times and calls of the actions.
pub record AreTurns {S : Type 0} (number : ℕ) (actions : List (Action S)) (opening : Reaction) (turns : List Turn) : Type 0 where
  pub happened : flat_map (event_of number) actions ≡ Opened number ∷ map (piece_of number) turns
  pub answered : flat_map answer_of actions ≡ Ok opening ∷ map brought turns
  pub told : flat_map moment_of actions ≡ map turn.moment_of turns
  pub called : flat_map cut_calls actions ≡ flat_map calls_of turns

-- An open connection has completed turns that go on, and is in at most one more.
pub record IsAlone {S : Type 0} (number : ℕ) (actions : List (Action S)) (at : ConnectionState S) : Type 0 where
  pub opening : Reaction
  pub turns : List Turn
  pub go_on : AllByRecursion GoesOn turns
  pub under_way : List Turn
  pub is_under_way : IsUnderWay under_way at
  pub are_turns : AreTurns number actions opening (turns ++ under_way)

-- The handler takes the event of an action, if it has one.
abbrev pub IsTold : {S : Type 0} → Action S → Type 0
IsTold OpensUntold = ⊥
IsTold (EndsUntold cause stream closing) = ⊥
IsTold other = Unit {0}

abbrev pub ServedAsIfAlone : {S : Type 0} → Ways S → Type 0
ServedAsIfAlone {S} ways =
    (number : ℕ) (actions : List (Action S)) (at : ConnectionState S) → AllByRecursion IsTold actions → Along ways Unused actions (Open at)
    → IsAlone number actions at
