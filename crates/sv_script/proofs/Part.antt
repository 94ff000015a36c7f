-- A run whose output fails: what it holds is a first part of the text of a whole run.
use Rattle.std.proofs.Common.{◌≡◌, ℕ, ◌+◌, ◌<◌, List, [], ◌∷◌, ◌++◌, Result, Ok, Err, refl, sym, ap, ◌∙◌, subst, append_assoc, length, arith}
use Rattle.std.specs.List.{concat}
use Rattle.sv_journal.specs.Journal.{JournalState}
use Rattle.sv_run.specs.Reacting.{Reacting}
use Rattle.sv_script.proofs.RunJoins.{cut_text}
use Rattle.sv_script.specs.Asked.{reactions_text}
use Rattle.sv_script.specs.Printed.{shutdown_text, start_text}
use Rattle.sv_script.specs.Replay.{Replays}
use Rattle.sv_script.specs.Whole.{PlaysOnce, PrintsOf, PrintsStop, blame}
use Rattle.sv_script.specs.WholeLaws.{AFailedOutputHoldsAPart, IsPart}
use Rattle.sv_script.specs.declared.replay_fault.ReplayFault.{ReplayFault}
use Rattle.sv_script.specs.declared.replay_fault.ReplayFault.TheVariants.{Script, Output, NoMemory}
use Rattle.sv_streams.proofs.CallJoins.{writes_join}
use Rattle.sv_streams.specs.Calls.{Making, WritesAll}
use Rattle.sv_streams.specs.declared.stream.WriteFailed.{WriteFailed}

-- ---- texts that were not written in full

some_left : (rest behind : List ℕ) → 0 < length rest → 0 < length (rest ++ behind)
some_left [] behind left = absurd (omega (arith, left))
some_left (byte ∷ rest) behind left = omega arith

-- a write that fails in a text fails in every longer one
fails_in_longer : {O : Type 0} (takes : Making O) (text behind : List ℕ) (before after : O) (failed : WriteFailed)
    → WritesAll takes text before (Err failed) after → WritesAll takes (text ++ behind) before (Err failed) after
fails_in_longer takes text behind before after failed (pieces, calls, made, (rest, are, is, left)) = (
  pieces,
  calls,
  made,
  (
    rest ++ behind,
    are,
    sym (append_assoc (concat pieces) rest behind) ∙ ap (λ front. front ++ behind) is,
    some_left rest behind left,
  ),
)

-- ---- a run over a started handler

blamed_so : (line : ℕ) (ended : Result (Unit {0}) ReplayFault) → Err Output ≡ blame line ended → ended ≡ Err Output
blamed_so line (Ok done) same = absurd (cc)
blamed_so line (Err (Script other)) same = absurd (cc)
blamed_so line (Err Output) same = refl
blamed_so line (Err NoMemory) same = absurd (cc)

module _ {R I O : Type 0} (steps : Reacting R) (stops : R → JournalState → Type 0) (gives : Making I) (takes : Making O)
    (started : JournalState) (before : R) (script : I) (output : O) (script_after : I) (output_after : O) where
  abbrev IsOurPart : Type 0
  IsOurPart = IsPart steps stops gives takes started before script output script_after output_after

  -- a write failed in the texts of the events or of the stop
  part_of : (begun played_to : O) (its_end : Result (Unit {0}) ReplayFault) (its_after : R) (its_stop : JournalState)
      → (r : Replays steps gives takes before script begun its_end its_after script_after played_to) → stops its_after its_stop
      → (its_failed : WriteFailed)
      → WritesAll takes (start_text started.entries ++ reactions_text 1 r.played.reactions ++ shutdown_text its_stop.entries) output (Err its_failed) output_after
      → IsOurPart
  part_of begun played_to its_end its_after its_stop r stops_with its_failed its_writes = record {
    played = r.played;
    plays = r.plays;
    are_made = r.are_made;
    ended = its_end;
    after = its_after;
    ends = r.ends;
    stopped = its_stop;
    stops_so = stops_with;
    failed = its_failed;
    writes = its_writes;
  }

  in_stop : (begun played_to : O) (its_end : Result (Unit {0}) ReplayFault) (its_after : R) (its_stop : JournalState)
      → WritesAll takes (start_text started.entries) output (Ok tt) begun
      → (r : Replays steps gives takes before script begun its_end its_after script_after played_to)
      → WritesAll takes (reactions_text 1 r.played.reactions) begun (Ok tt) played_to → stops its_after its_stop
      → PrintsOf takes shutdown_text its_stop played_to (Err Output) output_after → IsOurPart
  in_stop begun played_to its_end its_after its_stop writes r then_writes stops_with prints =
      part_of begun played_to its_end its_after its_stop r stops_with prints.1.0
      (writes_join takes (start_text started.entries ++ reactions_text 1 r.played.reactions) (shutdown_text its_stop.entries) output played_to output_after
      (Err prints.1.0)
      (writes_join takes (start_text started.entries) (reactions_text 1 r.played.reactions) output begun played_to (Ok tt) writes then_writes) prints.1.1)

  in_event : (begun played_to : O) (its_after : R) (its_stop : JournalState) → WritesAll takes (start_text started.entries) output (Ok tt) begun
      → (r : Replays steps gives takes before script begun (Err Output) its_after script_after played_to) → stops its_after its_stop
      → output_after ≡ played_to → IsOurPart
  in_event begun played_to its_after its_stop writes r stops_with stays =
      let at_last = cut_text takes r.played.reactions begun played_to r.writes in
      part_of begun played_to (Err Output) its_after its_stop r stops_with at_last.0
      (subst (λ o. WritesAll takes (start_text started.entries ++ reactions_text 1 r.played.reactions ++ shutdown_text its_stop.entries) output (Err at_last.0) o)
      (sym stays)
      (fails_in_longer takes (start_text started.entries ++ reactions_text 1 r.played.reactions) (shutdown_text its_stop.entries) output played_to at_last.0
      (writes_join takes (start_text started.entries) (reactions_text 1 r.played.reactions) output begun played_to (Err at_last.0) writes at_last.1)))

  once_begun : (played : Result (Unit {0}) ReplayFault) (begun played_to : O) (after : R) (stopped : JournalState)
      → WritesAll takes (start_text started.entries) output (Ok tt) begun
      → Replays steps gives takes before script begun played after script_after played_to → stops after stopped
      → PrintsStop takes played stopped played_to (Err Output) output_after → IsOurPart
  once_begun (Ok done) begun played_to after stopped writes r stops_with prints =
      in_stop begun played_to (Ok done) after stopped writes r r.writes stops_with prints
  once_begun (Err (Script line)) begun played_to after stopped writes r stops_with prints =
      in_stop begun played_to (Err (Script line)) after stopped writes r r.writes stops_with
      (subst (λ ended. PrintsOf takes shutdown_text stopped played_to ended output_after) (blamed_so line prints.0 prints.2) prints.1)
  once_begun (Err Output) begun played_to after stopped writes r stops_with prints =
      in_event begun played_to after stopped writes r stops_with prints.1
  once_begun (Err NoMemory) begun played_to after stopped writes r stops_with prints = let never = prints.0 in absurd (cc)

  -- a write failed in the text of the start: nothing of the script was read
  in_start : (begun : O) (its_failed : WriteFailed) (its_stop : JournalState)
      → WritesAll takes (start_text started.entries) output (Err its_failed) begun
      → script_after ≡ script → stops before its_stop → output_after ≡ begun → IsOurPart
  in_start begun its_failed its_stop fails unread stops_with stays = record {
    played = record { calls = []; lines = []; rest = []; said = []; reactions = []; handler = before };
    plays = record { no_writes = refl; counted = omega arith; are_next = refl; are_read = refl; reacts = refl };
    are_made = unread;
    ended = Err Output;
    after = before;
    ends = (refl, refl);
    stopped = its_stop;
    stops_so = stops_with;
    failed = its_failed;
    writes =
        subst (λ o. WritesAll takes (start_text started.entries ++ [] ++ shutdown_text its_stop.entries) output (Err its_failed) o) (sym stays)
        (fails_in_longer takes (start_text started.entries ++ []) (shutdown_text its_stop.entries) output begun its_failed
        (fails_in_longer takes (start_text started.entries) [] output begun its_failed fails));
  }

  never_begun : (played : Result (Unit {0}) ReplayFault) (begun played_to : O) (after : R) (its_stop : JournalState)
      → PrintsOf takes start_text started output (Err Output) begun → played ≡ Err Output → after ≡ before → script_after ≡ script → played_to ≡ begun
      → stops after its_stop → PrintsStop takes played its_stop played_to (Err Output) output_after → IsOurPart
  never_begun played begun played_to after its_stop fails same stays unread on stops_with prints =
      let stop = subst (λ p. PrintsStop takes p its_stop played_to (Err Output) output_after) same prints in
      in_start begun fails.1.0 its_stop fails.1.1 unread (subst (λ r. stops r its_stop) stays stops_with) (stop.1 ∙ on)

  without_memory : (played : Result (Unit {0}) ReplayFault) (played_to : O) (stopped : JournalState) → played ≡ Err NoMemory
      → PrintsStop takes played stopped played_to (Err Output) output_after → ⊥
  without_memory played played_to stopped same prints =
      let stop = subst (λ p. PrintsStop takes p stopped played_to (Err Output) output_after) same prints in
      let never = stop.0 in
      absurd (cc)

  by_start : (begun_so played : Result (Unit {0}) ReplayFault) (begun played_to : O) (after : R) (stopped : JournalState)
      → PrintsOf takes start_text started output begun_so begun
      → PlaysOnce steps gives takes begun_so before script begun played after script_after played_to → stops after stopped
      → PrintsStop takes played stopped played_to (Err Output) output_after → IsOurPart
  by_start (Ok done) played begun played_to after stopped first r stops_with prints = once_begun played begun played_to after stopped first.1 r stops_with prints
  by_start (Err (Script line)) played begun played_to after stopped first r stops_with prints = absurd first
  by_start (Err Output) played begun played_to after stopped first r stops_with prints =
      never_begun played begun played_to after stopped first r.0 r.1 r.2 r.3 stops_with prints
  by_start (Err NoMemory) played begun played_to after stopped first r stops_with prints = absurd (without_memory played played_to stopped r.0 prints)

module _ {R I O : Type 0} (steps : Reacting R) (stops : R → JournalState → Type 0) (gives : Making I) (takes : Making O) where
  pub a_failed_output_holds_a_part : AFailedOutputHoldsAPart steps stops gives takes
  a_failed_output_holds_a_part started before script output script_after output_after r =
      by_start steps stops gives takes started before script output script_after output_after r.begun r.played r.output_begun r.output_played r.after r.stopped
      r.prints_start r.plays r.stops_so r.prints_stop
