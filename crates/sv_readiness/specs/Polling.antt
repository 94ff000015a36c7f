-- The calls of the sockets: the line that the control socket reads, the edit that a query asks for, and the reasons of a
-- stop.
use Rattle.std.specs.Prelude.{◌≡◌, ◌⊎◌, ℕ, ◌<◌, ◌≤◌, Bool, true, List, ◌++◌, length, take, Option, None, Some, Result, Ok, Err}
use Rattle.std.specs.Io.KnownBytes.{Consumes, Keeps}
use Rattle.sv_connection.specs.Asking.{Explaining, Saying}
use Rattle.sv_connection.specs.Polling.{Accept, Answer, Close, PollerCall, Status, Wait}
use Rattle.sv_connection.specs.declared.poller.PollEvent.TheVariants.{Asked, Stop}
use Rattle.sv_connection.specs.declared.queries.Figures.{Figures}
use Rattle.sv_policy.specs.declared.edit.Edit.{Edit}
use Rattle.sv_readiness.specs.Asking.{RepliesTo, ask_of, asks_to_stop, line_end}
use Rattle.sv_readiness.specs.declared.control.Control.{Control}
use Rattle.sv_readiness.specs.declared.control_commands.Ask.TheVariants as ask
use Rattle.sv_readiness.specs.declared.control_line.Heard.{Heard}
use Rattle.sv_readiness.specs.declared.control_line.Heard.TheVariants.{End, Part, TooLong, UntilPaused, Whole}
use Rattle.sv_readiness.specs.declared.limits.TheConstants.{MAX_LINE_BYTES}
use Rattle.sv_readiness.specs.declared.signals.Signals.{Signals}
use Rattle.sv_readiness.specs.Signals.{ask_to_stop, last_read}
use Rattle.sv_run.specs.Reacting.{Reacting}
use Rattle.sv_run.specs.declared.step_fault.StepFault.{StepFault}
use Rattle.sv_text.specs.declared.no_memory.NoMemory.{NoMemory}

-- the line is the front of these bytes, up to their first line end
abbrev pub IsCutFrom : List ℕ → List ℕ → Type 0
IsCutFrom bytes line = (end : ℕ) × (line_end bytes ≡ Some end) × (line ≡ take end bytes)

-- the line is whole: it is cut from some bytes
abbrev pub IsLine : List ℕ → Type 0
IsLine line = (bytes : List ℕ) × IsCutFrom bytes line

-- the bytes of a client so far: a part of a line, a whole line, or too many; if memory for them ran out, that is the end
abbrev pub Adds : List ℕ → Heard → List ℕ → Type 0
Adds bytes Part line = (line ≡ bytes) × (line_end bytes ≡ None) × (length bytes < MAX_LINE_BYTES)
Adds bytes Whole line = IsCutFrom bytes line
Adds bytes TooLong line = (line_end bytes ≡ None) × (MAX_LINE_BYTES ≤ length bytes)
Adds bytes UntilPaused line = ⊥
Adds bytes End line = Unit {0}

-- a read of a client: only the bytes that it sent are added to its line
abbrev pub Hears : Option (List ℕ) → List ℕ → Heard → Option (List ℕ) → List ℕ → Type 0
Hears before line Part after line_after = (bytes : List ℕ) × Consumes before after bytes × Adds (line ++ bytes) Part line_after
Hears before line Whole after line_after = (bytes : List ℕ) × Consumes before after bytes × Adds (line ++ bytes) Whole line_after
Hears before line TooLong after line_after = (bytes : List ℕ) × Consumes before after bytes × Adds (line ++ bytes) TooLong line_after
Hears before line UntilPaused after line_after = Keeps before after × (line_after ≡ line)
Hears before line End after line_after = Unit {0}

-- the control socket, if there is one, holds a whole line
abbrev pub HoldsLine : Option Control → Type 0
HoldsLine None = ⊥
HoldsLine (Some control) = IsLine control.line.items

-- the line is whole, and it is the command `stop`
abbrev pub IsStopLine : List ℕ → Type 0
IsStopLine line = IsLine line × (asks_to_stop line ≡ true)

-- the control socket, if there is one, holds the line `stop`
abbrev pub HoldsStop : Option Control → Type 0
HoldsStop None = ⊥
HoldsStop (Some control) = IsStopLine control.line.items

-- the last read of the descriptor of signals, if there is one, gave a record of SIGTERM or SIGINT
abbrev pub HoldsSignal : Option Signals → Type 0
HoldsSignal None = ⊥
HoldsSignal (Some signals) = ask_to_stop (last_read signals) ≡ true

-- the reasons of a stop: the system reports no more events, a client of the control socket asks for it, or a signal
abbrev pub IsStopped : Bool → Option Control → Option Signals → Type 0
IsStopped has_failed control signals = (has_failed ≡ true) ⊎ (HoldsStop control ⊎ HoldsSignal signals)

-- the line that the control socket holds asks for this edit of the context of this path
abbrev pub IsAskedBy : Option Control → List ℕ → Edit → Type 0
IsAskedBy None path edit = ⊥
IsAskedBy (Some control) path edit = ask_of control.line.items ≡ ask.Edit path edit

-- a query asks for no edit, or for that of the line
abbrev pub Asks : Option Control → Option (List ℕ × Edit) → Type 0
Asks control None = Unit {0}
Asks control (Some (path, edit)) = IsAskedBy control path edit

-- a call, by the control socket before and after it, and whether the system has failed and the signals after it: a query is
-- reported only once its line is whole, and it asks for the edit of that line or for none; a stop is reported only for one
-- of its reasons; accepting and closing a connection leave the line
abbrev pub Polls : {S : Type 0} → Option Control → PollerCall S → Option Control → Bool → Option Signals → Type 0
Polls before (Wait event) after has_failed signals = (event ≡ Asked → HoldsLine after) × (event ≡ Stop → IsStopped has_failed after signals)
Polls before (Accept number stream) after has_failed signals = after ≡ before
Polls before (Close number stream closing) after has_failed signals = after ≡ before
Polls before (Answer figures asked) after has_failed signals = Asks before asked
Polls before (Status figures) after has_failed signals = Unit {0}

module _ {R : Type 0} (before : R) (steps : Reacting R) (explains : Explaining R) (uncovers constrains stands : Saying R) (figures : Figures) where
  -- the control socket replies to the line that it holds, or is left without memory for the reply
  abbrev pub RepliesAt : Control → Result (Unit {0}) StepFault → R → Type 0
  RepliesAt control (Ok done) after =
      (said : Result (List ℕ) NoMemory)
      × RepliesTo before steps explains uncovers constrains stands figures control.offset (ask_of control.line.items) (Ok said) after
  RepliesAt control (Err fault) after =
      RepliesTo before steps explains uncovers constrains stands figures control.offset (ask_of control.line.items) (Err fault) after

  -- without a control socket nothing is done
  abbrev pub RepliesIfAny : Option Control → Result (Unit {0}) StepFault → R → Type 0
  RepliesIfAny None result after = (result ≡ Ok tt) × (after ≡ before)
  RepliesIfAny (Some control) result after = RepliesAt control result after
