-- The laws of one connection.
use Rattle.std.specs.Prelude.{◌≡◌, ◌⊎◌, ℕ, ◌<◌, true, List, [], ◌++◌, flat_map, length, Some}
use Rattle.std.specs.List.{AllByRecursion}
use Rattle.sv_connection.specs.Turns.{AtClose, AtEnd, AtFailedRead, AtFailedWrite, AtLimit, AtRefusal, Ending, GoesOn, IsEnding, Turn, all_calls, over_of}
use Rattle.sv_streams.specs.declared.line_reader.TheConstants.{MAX_READS}
use Rattle.sv_connection.specs.declared.over.Over.TheVariants.{Closed, Lost}
use Rattle.sv_streams.specs.Calls.{failures, given, meets_end, reads, taken}

abbrev pub bytes_of : Turn → List ℕ
bytes_of turn = turn.bytes

abbrev pub sends_of : Turn → List ℕ
sends_of turn = turn.reaction.sends

-- The bytes read last.
abbrev pub last_bytes : Ending → List ℕ
last_bytes AtEnd = []
last_bytes (AtClose turn) = turn.bytes
last_bytes AtFailedRead = []
last_bytes (AtFailedWrite turn) = turn.bytes
last_bytes AtLimit = []
last_bytes (AtRefusal bytes moment) = bytes

-- The bytes to send last.
abbrev pub last_sends : Ending → List ℕ
last_sends AtEnd = []
last_sends (AtClose turn) = turn.reaction.sends
last_sends AtFailedRead = []
last_sends (AtFailedWrite turn) = turn.reaction.sends
last_sends AtLimit = []
last_sends (AtRefusal bytes moment) = []

-- A failed write leaves bytes unwritten, and no other ending does.
abbrev pub IsLeft : Ending → List ℕ → Type 0
IsLeft AtEnd rest = rest ≡ []
IsLeft (AtClose turn) rest = rest ≡ []
IsLeft AtFailedRead rest = rest ≡ []
IsLeft (AtFailedWrite turn) rest = 0 < length rest
IsLeft AtLimit rest = rest ≡ []
IsLeft (AtRefusal bytes moment) rest = rest ≡ []

-- The bytes read are those of the pieces, in order.
abbrev pub PiecesAreWhatIsRead : Type 0
PiecesAreWhatIsRead = (turns : List Turn) (ending : Ending) → given (all_calls turns ending) ≡ flat_map bytes_of turns ++ last_bytes ending

-- The bytes written are those of the reactions, in order, up to a write that failed.
abbrev pub WhatIsSentIsWritten : Type 0
WhatIsSentIsWritten =
    (turns : List Turn) (ending : Ending) → AllByRecursion GoesOn turns → IsEnding turns ending
    → (rest : List ℕ) × (taken (all_calls turns ending) ++ rest ≡ flat_map sends_of turns ++ last_sends ending) × IsLeft ending rest

-- A connection is lost only if a call failed or the limit of reads was met.
abbrev pub LostHasACause : Type 0
LostHasACause =
    (turns : List Turn) (ending : Ending) → IsEnding turns ending → over_of ending ≡ Some Lost
    → (failures (all_calls turns ending) ≡ 1) ⊎ (reads (all_calls turns ending) ≡ MAX_READS)

-- A connection is closed only if no call failed, and the stream ended or a reaction closes it.
abbrev pub ClosedHasACause : Type 0
ClosedHasACause =
    (turns : List Turn) (ending : Ending) → IsEnding turns ending → over_of ending ≡ Some Closed
    → (failures (all_calls turns ending) ≡ 0)
    × ((meets_end (all_calls turns ending) ≡ true) ⊎ ((turn : Turn) × (ending ≡ AtClose turn) × (turn.reaction.closes ≡ true)))
