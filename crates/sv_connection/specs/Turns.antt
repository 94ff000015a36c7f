-- The turns of a connection: the bytes of a read, their reaction, and the bytes written.
use Rattle.std.specs.Prelude.{◌≡◌, ℕ, ◌<◌, false, true, List, [], ◌∷◌, ◌++◌, flat_map, length, map, Option, None, Some, Result, Ok}
use Rattle.std.specs.List.{concat}
use Rattle.sv_streams.specs.declared.line_reader.TheConstants.{MAX_READS}
use Rattle.sv_connection.specs.declared.over.Over.{Over}
use Rattle.sv_connection.specs.declared.over.Over.TheVariants.{Closed, Lost}
use Rattle.sv_run.specs.Events.{Happening, Piece}
use Rattle.sv_run.specs.Events as events
use Rattle.sv_run.specs.declared.happening.Reaction.{Reaction}
use Rattle.sv_run.specs.declared.step_fault.StepFault.{StepFault}
use Rattle.sv_streams.specs.Calls.{Call, Gave, ReadFailed, Took, WriteFailed}

-- The bytes of a read, their time, their reaction, and the parts in which the bytes of this reaction were written.
pub record Turn : Type 0 where
  pub bytes : List ℕ
  pub moment : ℕ
  pub reaction : Reaction
  pub parts : List (List ℕ)

abbrev pub piece_of : ℕ → Turn → Happening
piece_of connection turn = Piece connection turn.bytes turn.moment

abbrev pub brought : Turn → Result Reaction StepFault
brought turn = Ok turn.reaction

abbrev pub moment_of : Turn → ℕ
moment_of turn = turn.moment

abbrev pub calls_of : Turn → List Call
calls_of turn = Gave turn.bytes ∷ map Took turn.parts

-- All bytes of the reaction were written.
pub record IsWhole (turn : Turn) : Type 0 where
  pub some : 0 < length turn.bytes
  pub is_written : concat turn.parts ≡ turn.reaction.sends

-- The connection goes on after a whole turn.
pub record GoesOn (turn : Turn) : Type 0 where
  pub whole : IsWhole turn
  pub stays_open : turn.reaction.closes ≡ false

-- A write failed before this rest of the bytes of a reaction.
pub record IsCutShort (turn : Turn) (rest : List ℕ) : Type 0 where
  pub some : 0 < length turn.bytes
  pub is_written : concat turn.parts ++ rest ≡ turn.reaction.sends
  pub left : 0 < length rest

-- How a connection ended after the turns that went on.
pub data Ending : Type 0 where
  -- A read met the end.
  AtEnd : Ending
  -- A reaction closed the connection.
  AtClose : Turn → Ending
  AtFailedRead : Ending
  AtFailedWrite : Turn → Ending
  -- The limit of reads was met.
  AtLimit : Ending
  -- A piece with these bytes was refused, at this time.
  AtRefusal : List ℕ → ℕ → Ending

-- Whether these turns may end in this way.
abbrev pub IsEnding : List Turn → Ending → Type 0
IsEnding turns AtEnd = Unit {0}
IsEnding turns (AtClose turn) = IsWhole turn × (turn.reaction.closes ≡ true)
IsEnding turns AtFailedRead = Unit {0}
IsEnding turns (AtFailedWrite turn) = (rest : List ℕ) × IsCutShort turn rest
IsEnding turns AtLimit = length turns ≡ MAX_READS
IsEnding turns (AtRefusal bytes moment) = 0 < length bytes

abbrev pub last_calls : Ending → List Call
last_calls AtEnd = Gave [] ∷ []
last_calls (AtClose turn) = calls_of turn
last_calls AtFailedRead = ReadFailed ∷ []
last_calls (AtFailedWrite turn) = calls_of turn ++ WriteFailed ∷ []
last_calls AtLimit = []
last_calls (AtRefusal bytes moment) = Gave bytes ∷ []

-- The calls of all turns and of the ending.
abbrev pub all_calls : List Turn → Ending → List Call
all_calls turns ending = flat_map calls_of turns ++ last_calls ending

abbrev pub last_moments : Ending → List ℕ
last_moments AtEnd = []
last_moments (AtClose turn) = turn.moment ∷ []
last_moments AtFailedRead = []
last_moments (AtFailedWrite turn) = turn.moment ∷ []
last_moments AtLimit = []
last_moments (AtRefusal bytes moment) = moment ∷ []

-- How the connection ended, if no piece was refused.
abbrev pub over_of : Ending → Option Over
over_of AtEnd = Some Closed
over_of (AtClose turn) = Some Closed
over_of AtFailedRead = Some Lost
over_of (AtFailedWrite turn) = Some Lost
over_of AtLimit = Some Lost
over_of (AtRefusal bytes moment) = None

-- The event of this end.
abbrev pub over_event : ℕ → Over → Happening
over_event connection Closed = events.Ended connection
over_event connection Lost = events.Lost connection

abbrev pub last_events : ℕ → Ending → List Happening
last_events connection AtEnd = over_event connection Closed ∷ []
last_events connection (AtClose turn) = piece_of connection turn ∷ over_event connection Closed ∷ []
last_events connection AtFailedRead = over_event connection Lost ∷ []
last_events connection (AtFailedWrite turn) = piece_of connection turn ∷ over_event connection Lost ∷ []
last_events connection AtLimit = over_event connection Lost ∷ []
last_events connection (AtRefusal bytes moment) = Piece connection bytes moment ∷ []

-- The results of the last events, by that of the final one.
abbrev pub last_answers : Ending → Result Reaction StepFault → List (Result Reaction StepFault)
last_answers AtEnd last = last ∷ []
last_answers (AtClose turn) last = brought turn ∷ last ∷ []
last_answers AtFailedRead last = last ∷ []
last_answers (AtFailedWrite turn) last = brought turn ∷ last ∷ []
last_answers AtLimit last = last ∷ []
last_answers (AtRefusal bytes moment) last = last ∷ []
