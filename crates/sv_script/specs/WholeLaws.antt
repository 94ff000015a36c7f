-- The laws of the runs of scripts.
use Rattle.std.specs.Prelude.{◌≡◌, ◌⊎◌, List, ◌++◌, filter, flat_map, map, Result, Ok, Err}
use Rattle.std.specs.List.{AllByRecursion}
use Rattle.sv_journal.specs.Journal.{JournalState}
use Rattle.sv_journal.specs.declared.entry.Entry.{Entry}
use Rattle.sv_script.specs.Asked.{events_of, reactions_text}
use Rattle.sv_script.specs.Replay.{Ends, Played, Plays}
use Rattle.sv_script.specs.declared.replay_fault.ReplayFault.{ReplayFault}
use Rattle.sv_script.specs.declared.replay_fault.ReplayFault.TheVariants.{Script, Output, NoMemory}
use Rattle.sv_run.specs.Contexts.{Theory}
use Rattle.sv_run.specs.Lawful.{is_outcome}
use Rattle.sv_run.specs.Laws.{EntersWhereAllowed, RequestsEnterExactlyWhereAllowed, deed_entry}
use Rattle.sv_run.specs.Reacting.{Reacting, StepsLike, answer_shown}
use Rattle.sv_run.specs.Runs.{Answer, Run, deeds_of}
use Rattle.sv_run.specs.State.{State}
use Rattle.sv_run.specs.declared.happening.Reaction.{Reaction}
use Rattle.sv_script.specs.Printed.{shutdown_text, start_text}
use Rattle.sv_script.specs.Whole.{RunsWhole}
use Rattle.sv_streams.specs.Calls.{AreMade, Making, WritesAll}
use Rattle.sv_streams.specs.declared.stream.WriteFailed.{WriteFailed}

-- the output is complete: the run ended well, or a line of the script is at fault
abbrev pub IsWritten : Result (Unit {0}) ReplayFault → Type 0
IsWritten (Ok done) = Unit {0}
IsWritten (Err (Script line)) = Unit {0}
IsWritten (Err Output) = ⊥
IsWritten (Err NoMemory) = ⊥

module _ {R I O : Type 0} (steps : Reacting R) (stops : R → JournalState → Type 0) (gives : Making I) (takes : Making O) where
  -- the output from the start to the stop: the texts of all events of the lines, up to the end of the replay
  pub record IsOneText (started : JournalState) (before : R) (script : I) (output : O) (result : Result (Unit {0}) ReplayFault) (script_after : I)
      (output_after : O) : Type 0 where
    pub played : Played R
    pub plays : Plays steps before played
    pub are_made : AreMade gives script played.calls script_after
    pub after : R
    pub ends : Ends steps played result after
    pub stopped : JournalState
    pub stops_so : stops after stopped
    pub writes : WritesAll takes (start_text started.entries ++ reactions_text 1 played.reactions ++ shutdown_text stopped.entries) output (Ok tt) output_after

  abbrev pub ARunWritesOneText : Type 0
  ARunWritesOneText =
      (started : JournalState) (before : R) (script : I) (output : O) (result : Result (Unit {0}) ReplayFault) (script_after : I) (output_after : O)
      → RunsWhole steps stops gives takes started before script output result script_after output_after
      → IsWritten result → IsOneText started before script output result script_after output_after

-- the first text is the beginning of the other
abbrev pub Begins : {X : Type 0} → List X → List X → Type 0
Begins {X} front whole = (behind : List X) × (front ++ behind ≡ whole)

module _ {R I O : Type 0} (steps : Reacting R) (stops : R → JournalState → Type 0) (gives : Making I) (takes : Making O) where
  -- memory ran out for the text of the start: nothing was read or written, and the handler was stopped
  pub record IsUnwritten (before : R) (script : I) (output : O) (script_after : I) (output_after : O) : Type 0 where
    pub stopped : JournalState
    pub stops_so : stops before stopped
    pub unread : script_after ≡ script
    pub unwritten : output_after ≡ output

  -- memory ran out later: the output is the text of the start and of the accepted events whose text fitted in memory,
  -- and nothing else; the handler was stopped
  pub record IsCut (started : JournalState) (before : R) (script : I) (output : O) (script_after : I) (output_after : O) : Type 0 where
    pub played : Played R
    pub plays : Plays steps before played
    pub are_made : AreMade gives script played.calls script_after
    pub ended : Result (Unit {0}) ReplayFault
    pub after : R
    pub ends : Ends steps played ended after
    pub stopped : JournalState
    pub stops_so : stops after stopped
    pub writes : WritesAll takes (start_text started.entries ++ reactions_text 1 played.reactions) output (Ok tt) output_after

  -- a run that reports `NoMemory` has written nothing after memory ran out, and the handler was stopped
  abbrev pub ARefusedRunIsCut : Type 0
  ARefusedRunIsCut =
      (started : JournalState) (before : R) (script : I) (output : O) (script_after : I) (output_after : O)
      → RunsWhole steps stops gives takes started before script output (Err NoMemory) script_after output_after
      → IsUnwritten before script output script_after output_after ⊎ IsCut started before script output script_after output_after

  -- a write failed: the output is the first bytes of the text of the start, of the events that the script asks for, and
  -- of the stop; nothing was written after the failure, and the handler was stopped
  pub record IsPart (started : JournalState) (before : R) (script : I) (output : O) (script_after : I) (output_after : O) : Type 0 where
    pub played : Played R
    pub plays : Plays steps before played
    pub are_made : AreMade gives script played.calls script_after
    pub ended : Result (Unit {0}) ReplayFault
    pub after : R
    pub ends : Ends steps played ended after
    pub stopped : JournalState
    pub stops_so : stops after stopped
    pub failed : WriteFailed
    pub writes : WritesAll takes (start_text started.entries ++ reactions_text 1 played.reactions ++ shutdown_text stopped.entries) output (Err failed) output_after

  -- a run whose output fails has written the first bytes of one text, and nothing after the failure; the handler was stopped
  abbrev pub AFailedOutputHoldsAPart : Type 0
  AFailedOutputHoldsAPart =
      (started : JournalState) (before : R) (script : I) (output : O) (script_after : I) (output_after : O)
      → RunsWhole steps stops gives takes started before script output (Err Output) script_after output_after
      → IsPart started before script output script_after output_after

  -- its output is the beginning of the output of every complete run whose start has the same entries and whose first
  -- events have the same reactions
  abbrev pub ACutTextBeginsTheWhole : Type 0
  ACutTextBeginsTheWhole =
      (started : JournalState) (before : R) (script : I) (output : O) (script_after : I) (output_after : O)
      (cut : IsCut started before script output script_after output_after)
      → (other_started : JournalState) (other : R) (other_script : I) (other_output : O) (result : Result (Unit {0}) ReplayFault) (other_script_after : I)
      (other_output_after : O)
      (whole : IsOneText steps stops gives takes other_started other other_script other_output result other_script_after other_output_after)
      → started.entries ≡ other_started.entries → Begins cut.played.reactions whole.played.reactions
      → Begins (start_text started.entries ++ reactions_text 1 cut.played.reactions)
      (start_text other_started.entries ++ reactions_text 1 whole.played.reactions ++ shutdown_text whole.stopped.entries)

-- the entries that report events
abbrev pub entries_of : List Reaction → List Entry
entries_of reactions = flat_map (λ reaction. reaction.journal.entries) reactions

module _ {R Context Words : Type 0} (steps : Reacting R) (theory : Theory Context Words) where
  -- the events that a script asks for are a run, and the texts report it: the entries report the outcome of each
  -- message once, in order, and a request enters exactly if the combined constraints allow it
  pub record PlaysALawfulRun (state_of : R → State Context Words) (before : R) (played : Played R) : Type 0 where
    pub answers : List (Answer Context)
    pub runs : Run theory (state_of before) (events_of 0 played.said) answers (state_of played.handler)
    pub are_shown : map Ok played.reactions ≡ map answer_shown answers
    pub outcomes : filter is_outcome (entries_of played.reactions) ≡ map (deed_entry theory) (deeds_of answers)
    pub entered : AllByRecursion (EntersWhereAllowed theory) (deeds_of answers)

  abbrev pub AScriptIsALawfulRun : Type 0
  AScriptIsALawfulRun =
      (state_of : R → State Context Words) → StepsLike steps theory state_of → RequestsEnterExactlyWhereAllowed theory
      → (before : R) (played : Played R) → Plays steps before played → PlaysALawfulRun state_of before played
