-- A run of a script that ran out of memory.
use Rattle.std.proofs.Common.{◌≡◌, ◌⊎◌, ℕ, ◌+◌, List, [], ◌∷◌, ◌++◌, Result, Ok, Err, refl, sym, ap, ◌∙◌, inl, inr, subst, append_assoc}
use Rattle.sv_journal.specs.Journal.{JournalState}
use Rattle.sv_script.specs.Asked.{reaction_text, reactions_text}
use Rattle.sv_script.specs.Replay.{Replays}
use Rattle.sv_script.specs.declared.replay_fault.ReplayFault.{ReplayFault}
use Rattle.sv_script.specs.declared.replay_fault.ReplayFault.TheVariants.{Script, Output, NoMemory}
use Rattle.sv_run.specs.Reacting.{Reacting}
use Rattle.sv_run.specs.declared.happening.Reaction.{Reaction}
use Rattle.sv_script.specs.Printed.{shutdown_text, start_text}
use Rattle.sv_script.specs.WholeLaws.{ACutTextBeginsTheWhole, ARefusedRunIsCut, Begins, IsCut, IsUnwritten}
use Rattle.sv_script.specs.Whole.{PlaysOnce, PrintsOf, PrintsStop, blame}
use Rattle.sv_streams.specs.Calls.{Making, WritesAll}
use Rattle.sv_streams.proofs.CallJoins.{writes_join}

-- the texts of the first events are the beginning of the texts of all events
texts_begin : (number : ℕ) (front behind : List Reaction) → Begins (reactions_text number front) (reactions_text number (front ++ behind))
texts_begin number [] behind = (reactions_text number behind, refl)
texts_begin number (reaction ∷ front) behind =
    let later = texts_begin (number + 1) front behind in (
      later.0,
      append_assoc (reaction_text number reaction) (reactions_text (number + 1) front) later.0
          ∙ ap (λ text. reaction_text number reaction ++ text) later.1,
    )

-- if a text begins another, it still does with a common text before both and with more text after the other
begins_between : {X : Type 0} (start front whole stop : List X) → Begins front whole → Begins (start ++ front) (start ++ whole ++ stop)
begins_between start front whole stop begins = (
  begins.0 ++ stop,
  append_assoc start front (begins.0 ++ stop)
      ∙ ap (λ text. start ++ text) (sym (append_assoc front begins.0 stop) ∙ ap (λ text. text ++ stop) begins.1)
      ∙ sym (append_assoc start whole stop),
)

module _ {R I O : Type 0} (steps : Reacting R) (stops : R → JournalState → Type 0) (gives : Making I) (takes : Making O) where
  pub a_cut_text_begins_the_whole : ACutTextBeginsTheWhole steps stops gives takes
  a_cut_text_begins_the_whole started before script output script_after output_after cut other_started other other_script other_output result
      other_script_after other_output_after whole same first =
      subst (λ entries. Begins (start_text started.entries ++ reactions_text 1 cut.played.reactions)
      (start_text entries ++ reactions_text 1 whole.played.reactions ++ shutdown_text whole.stopped.entries)) same
      (begins_between (start_text started.entries) (reactions_text 1 cut.played.reactions) (reactions_text 1 whole.played.reactions)
      (shutdown_text whole.stopped.entries)
      (subst (λ reactions. Begins (reactions_text 1 cut.played.reactions) (reactions_text 1 reactions)) first.1
      (texts_begin 1 cut.played.reactions first.0)))

  module _ (started : JournalState) (before : R) (script : I) (output : O) (script_after : I) (output_after : O) where
    -- nothing was written after the replay
    cut_at : (begun played_to : O) (its_end : Result (Unit {0}) ReplayFault) (its_after : R) (its_stop : JournalState)
        → WritesAll takes (start_text started.entries) output (Ok tt) begun
        → (r : Replays steps gives takes before script begun its_end its_after script_after played_to)
        → WritesAll takes (reactions_text 1 r.played.reactions) begun (Ok tt) played_to → stops its_after its_stop → output_after ≡ played_to
        → IsCut steps stops gives takes started before script output script_after output_after
    cut_at begun played_to its_end its_after its_stop writes r then_writes stops_with stays =
        record {
          played = r.played;
          plays = r.plays;
          are_made = r.are_made;
          ended = its_end;
          after = its_after;
          ends = r.ends;
          stopped = its_stop;
          stops_so = stops_with;
          writes =
              subst (λ o. WritesAll takes (start_text started.entries ++ reactions_text 1 r.played.reactions) output (Ok tt) o) (sym stays)
              (writes_join takes (start_text started.entries) (reactions_text 1 r.played.reactions) output begun played_to (Ok tt) writes then_writes);
        }

    blamed_so : (line : ℕ) (ended : Result (Unit {0}) ReplayFault) (stopped : JournalState) (played_to : O)
        → PrintsOf takes shutdown_text stopped played_to ended output_after → Err NoMemory ≡ blame line ended → output_after ≡ played_to
    blamed_so line (Ok done) stopped played_to prints same = absurd (cc)
    blamed_so line (Err (Script other)) stopped played_to prints same = absurd prints
    blamed_so line (Err Output) stopped played_to prints same = absurd (cc)
    blamed_so line (Err NoMemory) stopped played_to prints same = prints

    once_begun : (played : Result (Unit {0}) ReplayFault) (begun played_to : O) (after : R) (stopped : JournalState)
        → WritesAll takes (start_text started.entries) output (Ok tt) begun
        → Replays steps gives takes before script begun played after script_after played_to → stops after stopped
        → PrintsStop takes played stopped played_to (Err NoMemory) output_after
        → IsCut steps stops gives takes started before script output script_after output_after
    once_begun (Ok done) begun played_to after stopped writes r stops_with prints =
        cut_at begun played_to (Ok done) after stopped writes r r.writes stops_with prints
    once_begun (Err (Script line)) begun played_to after stopped writes r stops_with prints =
        cut_at begun played_to (Err (Script line)) after stopped writes r r.writes stops_with
        (blamed_so line prints.0 stopped played_to prints.1 prints.2)
    once_begun (Err Output) begun played_to after stopped writes r stops_with prints = let never = prints.0 in absurd (cc)
    once_begun (Err NoMemory) begun played_to after stopped writes r stops_with prints =
        cut_at begun played_to (Err NoMemory) after stopped writes r r.writes stops_with prints.1

    -- if memory ran out for the text of the start, nothing else was done
    never_begun : (played : Result (Unit {0}) ReplayFault) (begun played_to : O) (after : R) (its_stop : JournalState) → begun ≡ output → played ≡ Err NoMemory
        → after ≡ before → script_after ≡ script → played_to ≡ begun → stops after its_stop
        → PrintsStop takes played its_stop played_to (Err NoMemory) output_after
        → IsUnwritten steps stops gives takes before script output script_after output_after
    never_begun played begun played_to after its_stop unwritten same stays unread on stops_with prints =
        let stop = subst (λ p. PrintsStop takes p its_stop played_to (Err NoMemory) output_after) same prints in
        record {
          stopped = its_stop;
          stops_so = subst (λ r. stops r its_stop) stays stops_with;
          unread = unread;
          unwritten = stop.1 ∙ on ∙ unwritten;
        }

    failed_start : (played : Result (Unit {0}) ReplayFault) (played_to : O) (stopped : JournalState) → played ≡ Err Output
        → PrintsStop takes played stopped played_to (Err NoMemory) output_after → ⊥
    failed_start played played_to stopped same prints =
        let stop = subst (λ p. PrintsStop takes p stopped played_to (Err NoMemory) output_after) same prints in
        let never = stop.0 in
        absurd (cc)

    by_start : (begun_so played : Result (Unit {0}) ReplayFault) (begun played_to : O) (after : R) (stopped : JournalState)
        → PrintsOf takes start_text started output begun_so begun
        → PlaysOnce steps gives takes begun_so before script begun played after script_after played_to → stops after stopped
        → PrintsStop takes played stopped played_to (Err NoMemory) output_after
        → IsUnwritten steps stops gives takes before script output script_after output_after
        ⊎ IsCut steps stops gives takes started before script output script_after output_after
    by_start (Ok done) played begun played_to after stopped first r stops_with prints =
        inr (once_begun played begun played_to after stopped first.1 r stops_with prints)
    by_start (Err (Script line)) played begun played_to after stopped first r stops_with prints = absurd first
    by_start (Err Output) played begun played_to after stopped first r stops_with prints = absurd (failed_start played played_to stopped r.0 prints)
    by_start (Err NoMemory) played begun played_to after stopped first r stops_with prints =
        inl (never_begun played begun played_to after stopped first r.0 r.1 r.2 r.3 stops_with prints)

  pub a_refused_run_is_cut : ARefusedRunIsCut steps stops gives takes
  a_refused_run_is_cut started before script output script_after output_after r =
      by_start started before script output script_after output_after r.begun r.played r.output_begun r.output_played r.after r.stopped r.prints_start r.plays
      r.stops_so r.prints_stop
