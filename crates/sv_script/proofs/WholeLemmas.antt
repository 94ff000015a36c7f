-- A run of a script as one text.
use Rattle.std.proofs.Common.{◌≡◌, ℕ, List, ◌++◌, Result, Ok, Err, subst, sym}
use Rattle.sv_journal.specs.Journal.{JournalState}
use Rattle.sv_script.specs.Asked.{reactions_text}
use Rattle.sv_script.specs.Replay.{Replays}
use Rattle.sv_script.specs.declared.replay_fault.ReplayFault.{ReplayFault}
use Rattle.sv_script.specs.declared.replay_fault.ReplayFault.TheVariants.{Script, Output, NoMemory}
use Rattle.sv_run.specs.Reacting.{Reacting}
use Rattle.sv_script.specs.Printed.{shutdown_text, start_text}
use Rattle.sv_script.specs.WholeLaws.{IsOneText, IsWritten}
use Rattle.sv_script.specs.Whole.{PlaysOnce, PrintsOf, PrintsStop, RunsWhole, blame}
use Rattle.sv_streams.specs.Calls.{Making, WritesAll}
use Rattle.sv_streams.proofs.CallJoins.{writes_join}

module _ {R I O : Type 0} (steps : Reacting R) (stops : R → JournalState → Type 0) (gives : Making I) (takes : Making O) (started : JournalState) (before : R)
    (script : I) (output : O) where
  -- the three texts form one
  three : (begun played_to after : O) (first second third : List ℕ) → WritesAll takes first output (Ok tt) begun
      → WritesAll takes second begun (Ok tt) played_to → WritesAll takes third played_to (Ok tt) after
      → WritesAll takes (first ++ second ++ third) output (Ok tt) after
  three begun played_to after first second third writes then_writes last_writes =
      writes_join takes (first ++ second) third output played_to after (Ok tt)
      (writes_join takes first second output begun played_to (Ok tt) writes then_writes) last_writes

  -- for each end of the replay: if the output is complete, it is one text
  ended_well : (result : Result (Unit {0}) ReplayFault) (begun played_to : O) (after : R) (stopped : JournalState) (script_after : I) (output_after : O)
      → WritesAll takes (start_text started.entries) output (Ok tt) begun
      → Replays steps gives takes before script begun (Ok tt) after script_after played_to → stops after stopped
      → PrintsOf takes shutdown_text stopped played_to result output_after → IsWritten result
      → IsOneText steps stops gives takes started before script output result script_after output_after
  ended_well (Ok done) begun played_to after stopped script_after output_after writes r stops_so (whole, last) is =
      record {
        played = r.played;
        plays = r.plays;
        are_made = r.are_made;
        after = after;
        ends = r.ends;
        stopped = stopped;
        stops_so = stops_so;
        writes = three begun played_to output_after (start_text started.entries) (reactions_text 1 r.played.reactions) (shutdown_text stopped.entries)
            writes r.writes last;
      }
  ended_well (Err (Script line)) begun played_to after stopped script_after output_after writes r stops_so none is = absurd none
  ended_well (Err Output) begun played_to after stopped script_after output_after writes r stops_so prints none = absurd none
  ended_well (Err NoMemory) begun played_to after stopped script_after output_after writes r stops_so prints none = absurd none

  blamed : (line : ℕ) (ended result : Result (Unit {0}) ReplayFault) (begun played_to : O) (after : R) (stopped : JournalState) (script_after : I)
      (output_after : O) → WritesAll takes (start_text started.entries) output (Ok tt) begun
      → Replays steps gives takes before script begun (Err (Script line)) after script_after played_to → stops after stopped
      → PrintsOf takes shutdown_text stopped played_to ended output_after → result ≡ blame line ended → IsWritten result
      → IsOneText steps stops gives takes started before script output result script_after output_after
  blamed line (Ok done) result begun played_to after stopped script_after output_after writes r stops_so (whole, last) same is =
      let P : Result (Unit {0}) ReplayFault → Type 0 = λ res. IsOneText steps stops gives takes started before script output res script_after output_after in
      let at_line : P (Err (Script line)) =
      record {
        played = r.played;
        plays = r.plays;
        are_made = r.are_made;
        after = after;
        ends = r.ends;
        stopped = stopped;
        stops_so = stops_so;
        writes = three begun played_to output_after (start_text started.entries) (reactions_text 1 r.played.reactions) (shutdown_text stopped.entries)
            writes r.writes last;
      } in
      subst P (sym same) at_line
  blamed line (Err (Script other)) result begun played_to after stopped script_after output_after writes r stops_so none same is = absurd none
  blamed line (Err Output) result begun played_to after stopped script_after output_after writes r stops_so prints same is =
      absurd (subst IsWritten same is)
  blamed line (Err NoMemory) result begun played_to after stopped script_after output_after writes r stops_so prints same is =
      absurd (subst IsWritten same is)

  -- after the text of the start was written
  once_begun : (played result : Result (Unit {0}) ReplayFault) (begun played_to : O) (after : R) (stopped : JournalState) (script_after : I) (output_after : O)
      → WritesAll takes (start_text started.entries) output (Ok tt) begun
      → Replays steps gives takes before script begun played after script_after played_to → stops after stopped
      → PrintsStop takes played stopped played_to result output_after → IsWritten result
      → IsOneText steps stops gives takes started before script output result script_after output_after
  once_begun (Ok done) result begun played_to after stopped script_after output_after writes r stops_so prints is =
      ended_well result begun played_to after stopped script_after output_after writes r stops_so prints is
  once_begun (Err (Script line)) result begun played_to after stopped script_after output_after writes r stops_so (ended, prints, same) is =
      blamed line ended result begun played_to after stopped script_after output_after writes r stops_so prints same is
  once_begun (Err Output) result begun played_to after stopped script_after output_after writes r stops_so (same, stays) is =
      absurd (subst IsWritten same is)
  once_begun (Err NoMemory) result begun played_to after stopped script_after output_after writes r stops_so (same, stays) is =
      absurd (subst IsWritten same is)

  -- if the text of the start was not written
  never_begun : (fault : ReplayFault) (played result : Result (Unit {0}) ReplayFault) (begun played_to : O) (stopped : JournalState) (output_after : O)
      → PrintsOf takes start_text started output (Err fault) begun → played ≡ Err fault → PrintsStop takes played stopped played_to result output_after
      → IsWritten result → ⊥
  never_begun (Script line) played result begun played_to stopped output_after none same prints is = none
  never_begun Output played result begun played_to stopped output_after first same prints is =
      let P : Result (Unit {0}) ReplayFault → Type 0 = λ p. PrintsStop takes p stopped played_to result output_after in
      subst IsWritten (subst P same prints).0 is
  never_begun NoMemory played result begun played_to stopped output_after first same prints is =
      let P : Result (Unit {0}) ReplayFault → Type 0 = λ p. PrintsStop takes p stopped played_to result output_after in
      subst IsWritten (subst P same prints).0 is

  by_start : (begun_so played result : Result (Unit {0}) ReplayFault) (begun played_to : O) (after : R) (stopped : JournalState) (script_after : I)
      (output_after : O) → PrintsOf takes start_text started output begun_so begun
      → PlaysOnce steps gives takes begun_so before script begun played after script_after played_to → stops after stopped
      → PrintsStop takes played stopped played_to result output_after → IsWritten result
      → IsOneText steps stops gives takes started before script output result script_after output_after
  by_start (Ok done) played result begun played_to after stopped script_after output_after (whole, writes) r stops_so prints is =
      once_begun played result begun played_to after stopped script_after output_after writes r stops_so prints is
  by_start (Err fault) played result begun played_to after stopped script_after output_after first (same, stays, script_stays, output_stays) stops_so prints is =
      absurd (never_begun fault played result begun played_to stopped output_after first same prints is)

  pub one_text : (result : Result (Unit {0}) ReplayFault) (script_after : I) (output_after : O)
      → RunsWhole steps stops gives takes started before script output result script_after output_after → IsWritten result
      → IsOneText steps stops gives takes started before script output result script_after output_after
  one_text result script_after output_after r is =
      by_start r.begun r.played result r.output_begun r.output_played r.after r.stopped script_after output_after r.prints_start r.plays r.stops_so
      r.prints_stop is
