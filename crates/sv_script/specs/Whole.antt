-- The whole run of a script over a started handler: the text of the start, the texts of the events that the script asks
-- for, and the text of the stop.
use Rattle.std.specs.Prelude.{◌≡◌, ℕ, true, List, Result, Ok, Err}
use Rattle.sv_journal.specs.Journal.{JournalState}
use Rattle.sv_journal.specs.declared.entry.Entry.{Entry}
use Rattle.sv_script.specs.Replay.{Replays}
use Rattle.sv_script.specs.declared.replay_fault.ReplayFault.{ReplayFault}
use Rattle.sv_script.specs.declared.replay_fault.ReplayFault.TheVariants.{Script, Output, NoMemory}
use Rattle.sv_run.specs.Reacting.{Reacting}
use Rattle.sv_script.specs.Printed.{shutdown_text, start_text}
use Rattle.sv_streams.specs.Calls.{Making, WritesAll}
use Rattle.sv_streams.specs.declared.stream.WriteFailed.{WriteFailed}

-- the result if a line is at fault: a fault in writing the text of the stop takes precedence
abbrev pub blame : ℕ → Result (Unit {0}) ReplayFault → Result (Unit {0}) ReplayFault
blame line (Ok done) = Err (Script line)
blame line (Err fault) = Err fault

module _ {O : Type 0} (takes : Making O) where
  -- a text is written, or a write of it failed, or memory for it ran out and nothing is written
  abbrev pub Prints : List ℕ → O → Result (Unit {0}) ReplayFault → O → Type 0
  Prints text output (Ok done) after = WritesAll takes text output (Ok tt) after
  Prints text output (Err Output) after = (failed : WriteFailed) × WritesAll takes text output (Err failed) after
  Prints text output (Err NoMemory) after = after ≡ output
  Prints text output (Err (Script line)) after = ⊥

  -- the text of a journal's entries is written; a broken journal has run out of memory
  abbrev pub PrintsOf : (List Entry → List ℕ) → JournalState → O → Result (Unit {0}) ReplayFault → O → Type 0
  PrintsOf text_of journal output (Ok done) after = (journal.whole ≡ true) × Prints (text_of journal.entries) output (Ok done) after
  PrintsOf text_of journal output (Err Output) after = (journal.whole ≡ true) × Prints (text_of journal.entries) output (Err Output) after
  PrintsOf text_of journal output (Err NoMemory) after = after ≡ output
  PrintsOf text_of journal output (Err (Script line)) after = ⊥

  -- the text of the stop, depending on how the replay ended: nothing follows a failed write or running out of memory
  abbrev pub PrintsStop : Result (Unit {0}) ReplayFault → JournalState → O → Result (Unit {0}) ReplayFault → O → Type 0
  PrintsStop (Ok done) stopped output result after = PrintsOf shutdown_text stopped output result after
  PrintsStop (Err (Script line)) stopped output result after =
      (ended : Result (Unit {0}) ReplayFault) × PrintsOf shutdown_text stopped output ended after × (result ≡ blame line ended)
  PrintsStop (Err Output) stopped output result after = (result ≡ Err Output) × (after ≡ output)
  PrintsStop (Err NoMemory) stopped output result after = (result ≡ Err NoMemory) × (after ≡ output)

module _ {R I O : Type 0} (steps : Reacting R) (gives : Making I) (takes : Making O) where
  -- after the text of the start, the script is replayed
  abbrev pub PlaysOnce : Result (Unit {0}) ReplayFault → R → I → O → Result (Unit {0}) ReplayFault → R → I → O → Type 0
  PlaysOnce (Ok done) before script output played after script_after output_after =
      Replays steps gives takes before script output played after script_after output_after
  PlaysOnce (Err fault) before script output played after script_after output_after =
      (played ≡ Err fault) × (after ≡ before) × (script_after ≡ script) × (output_after ≡ output)

module _ {R I O : Type 0} (steps : Reacting R) (stops : R → JournalState → Type 0) (gives : Making I) (takes : Making O) where
  -- the run of a script over a handler, from the journal of its start: the handler is stopped in every case
  pub record RunsWhole (started : JournalState) (before : R) (script : I) (output : O) (result : Result (Unit {0}) ReplayFault) (script_after : I)
      (output_after : O) : Type 0 where
    pub begun : Result (Unit {0}) ReplayFault
    pub output_begun : O
    pub prints_start : PrintsOf takes start_text started output begun output_begun
    pub played : Result (Unit {0}) ReplayFault
    pub after : R
    pub output_played : O
    pub plays : PlaysOnce steps gives takes begun before script output_begun played after script_after output_played
    pub stopped : JournalState
    pub stops_so : stops after stopped
    pub prints_stop : PrintsStop takes played stopped output_played result output_after
