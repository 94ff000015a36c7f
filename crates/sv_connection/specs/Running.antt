-- One connection of a container that runs (RFC 9112, section 9): the bytes read are the pieces of a run, and the bytes
-- written are those that the run sends.
use Rattle.std.specs.Prelude.{◌≡◌, ◌⊎◌, ℕ, true, List, [], ◌∷◌, ◌++◌, flat_map, map, MatchOption, Option, Some, Result, Ok, Err}
use Rattle.std.specs.Option.{option_to_list}
use Rattle.sv_connection.specs.Connection.{AreTold, Connects, told_as}
use Rattle.sv_connection.specs.Turns.{over_event}
use Rattle.sv_streams.specs.declared.line_reader.TheConstants.{MAX_READS}
use Rattle.sv_connection.specs.declared.over.Over.{Over}
use Rattle.sv_connection.specs.declared.over.Over.TheVariants.{Closed, Lost}
use Rattle.sv_run.specs.Contexts.{Theory}
use Rattle.sv_run.specs.Effect.{Effect}
use Rattle.sv_run.specs.Events.{Accepts, Happening, Opened, Piece}
use Rattle.sv_run.specs.Reacting.{Reacting, StepsLike, answer_shown}
use Rattle.sv_run.specs.Runs.{Answer, Run}
use Rattle.sv_run.specs.State.{State}
use Rattle.sv_run.specs.declared.step_fault.StepFault.{StepFault}
use Rattle.sv_streams.specs.Calls.{AreMade, Call, Making, WriteFailed, failures, given, meets_end, reads, taken}

-- The bytes of a read, and its time.
pub record Read : Type 0 where
  pub bytes : List ℕ
  pub moment : ℕ

abbrev pub bytes_of : Read → List ℕ
bytes_of read = read.bytes

abbrev pub moment_of : Read → ℕ
moment_of read = read.moment

abbrev pub piece_of : ℕ → Read → Happening
piece_of connection read = Piece connection read.bytes read.moment

-- The events of a connection: its opening, the pieces that were read, and its end, unless an event was refused before.
abbrev pub events_of : ℕ → List Read → Option Over → List Happening
events_of connection reads over =
    Opened connection ∷ (map (piece_of connection) reads ++ map (over_event connection) (option_to_list over))

module _ {Context : Type 0} where
  -- The bytes that the result of an event sends. A refused event sends none.
  abbrev pub sent_by : Answer Context → List ℕ
  sent_by (Ok effect) = effect.sends
  sent_by (Err fault) = []

  -- All events but the last were accepted. The last one is refused, or is the event of the connection's end.
  abbrev pub IsOverBy : Option Over → Answer Context → Result Over StepFault → Type 0
  IsOverBy over last result =
      MatchOption over ((fault : StepFault) × (last ≡ Err fault) × (result ≡ Err fault)) (λ told. result ≡ told_as told (answer_shown last))

  -- The reaction to the last piece closes the connection.
  abbrev pub ClosesAtLast : List (Effect Context) → Type 0
  ClosesAtLast effects = (earlier : List (Effect Context)) × (last : Effect Context) × (effects ≡ earlier ++ last ∷ []) × (last.closes ≡ true)

-- All bytes were written, unless the last call is a write that failed: then the connection is lost.
abbrev pub IsLeft : List Call → Option Over → List ℕ → Type 0
IsLeft calls over rest = (rest ≡ []) ⊎ ((over ≡ Some Lost) × ((earlier : List Call) × (calls ≡ earlier ++ WriteFailed ∷ [])))

abbrev pub IsPiece : Happening → Type 0
IsPiece happening = (number : ℕ) × (bytes : List ℕ) × (moment : ℕ) × (happening ≡ Piece number bytes moment)

-- An event that is not a piece sends nothing: neither an opening nor an end, whether in order or by loss.
abbrev pub OnlyPiecesSend : {Context Words : Type 0} → Theory Context Words → Type 0
OnlyPiecesSend {Context} {Words} theory =
    (before after : State Context Words) (happening : Happening) (effect : Effect Context) → Accepts theory before happening effect after
    → IsPiece happening ⊎ (effect.sends ≡ [])

module _ {R S C Context Words : Type 0} (steps : Reacting R) (makes : Making S) (tells : C → ℕ → C → Type 0) (theory : Theory Context Words)
    (state_of : R → State Context Words) where
  -- The events of the connection are a run of the container. The bytes read are those of its pieces, in order. The
  -- bytes written are all that the run sends, in order, or a prefix if a write failed.
  pub record IsARun (connection : ℕ) (before : R) (stream : S) (clock : C) (result : Result Over StepFault) (after : R) (stream_after : S)
      (clock_after : C) : Type 0 where
    pub pieces : List Read
    pub over : Option Over
    pub accepted : List (Effect Context)
    pub last : Answer Context
    pub runs : Run theory (state_of before) (events_of connection pieces over) (map Ok accepted ++ last ∷ []) (state_of after)
    pub is_over : IsOverBy over last result
    pub calls : List Call
    pub are_made : AreMade makes stream calls stream_after
    pub are_told : AreTold tells clock (map moment_of pieces) clock_after
    pub is_read : given calls ≡ flat_map bytes_of pieces
    pub rest : List ℕ
    pub is_written : taken calls ++ rest ≡ flat_map sent_by (map Ok accepted ++ last ∷ [])
    pub is_left : IsLeft calls over rest
    pub lost : over ≡ Some Lost → (failures calls ≡ 1) ⊎ (reads calls ≡ MAX_READS)
    pub closed : over ≡ Some Closed → (failures calls ≡ 0) × ((meets_end calls ≡ true) ⊎ ClosesAtLast accepted)

  abbrev pub AConnectionIsARun : Type 0
  AConnectionIsARun =
      StepsLike steps theory state_of
      → (connection : ℕ) (before : R) (stream : S) (clock : C) (result : Result Over StepFault) (after : R) (stream_after : S) (clock_after : C)
      → Connects steps makes tells connection before stream clock result after stream_after clock_after
      → IsARun connection before stream clock result after stream_after clock_after
