-- The records of signals that a descriptor of `signalfd(2)` gives.
use Rattle.std.specs.Prelude.{◌≡◌, ◌<◌, ◌*◌, ◌/◌, ◌==◌, ◌||◌, ℕ, Bool, true, false, List, ◌++◌, length, take}
use Rattle.std.specs.Simd.{first_chunks}
use Rattle.std.specs.Int.{from_le_bytes, w32}
use Rattle.std.specs.List.{list_any}
use Rattle.sv_readiness.specs.declared.limits.TheConstants.{SIGNAL_RECORD_BYTES}
use Rattle.sv_readiness.specs.declared.signals.Signals.{Signals}

-- the whole records in these bytes, in their order
abbrev pub records : List ℕ → List (List ℕ)
records bytes = first_chunks SIGNAL_RECORD_BYTES (length bytes / SIGNAL_RECORD_BYTES) bytes

-- the number of the signal of a record: its first four bytes, the least significant one first
abbrev pub signal_number : List ℕ → ℕ
signal_number signal = from_le_bytes w32 signal

-- SIGTERM and SIGINT ask for a stop
abbrev pub is_stop : ℕ → Bool
is_stop number = number == 15 || number == 2

-- a whole record in these bytes is of such a signal
abbrev pub ask_to_stop : List ℕ → Bool
ask_to_stop bytes = list_any (λ signal. is_stop (signal_number signal)) (records bytes)

-- the bytes of the last read of the descriptor
abbrev pub last_read : Signals → List ℕ
last_read signals = take signals.count signals.buffer

-- bytes that ask for a stop have a whole record of such a signal, after any number of others
abbrev pub StopsHaveARecord : Type 0
StopsHaveARecord = (bytes : List ℕ) → ask_to_stop bytes ≡ true
    → (before signal after : List ℕ) × (count : ℕ) × (bytes ≡ before ++ signal ++ after) × (length before ≡ count * 128) × (length signal ≡ 128)
    × (is_stop (signal_number signal) ≡ true)

-- fewer bytes than a record ask for nothing
abbrev pub ShortReadsAskForNothing : Type 0
ShortReadsAskForNothing = (bytes : List ℕ) → length bytes < 128 → ask_to_stop bytes ≡ false
