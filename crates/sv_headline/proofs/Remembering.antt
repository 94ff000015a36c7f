-- The output of a script in memory: from the calls of its streams to their bytes.
use Rattle.std.proofs.Common.{◌≡◌, ℕ, true, List, [], ◌∷◌, ◌++◌, map, Result, Ok, Err, refl, sym, ap, ◌∙◌, subst, append_assoc, append-nil}
use Rattle.std.specs.List.{concat}
use Rattle.sv_component.specs.Steps.{ComponentSteps}
use Rattle.sv_headline.specs.Headline.{WhatAScriptPrintsIsLawful}
use Rattle.sv_headline.specs.Memory.{AScriptInMemoryPrintsItsRun}
use Rattle.sv_script.specs.Asked.{reactions_text}
use Rattle.sv_script.specs.Lines.{lines_of}
use Rattle.sv_script.specs.Replay.{Ends}
use Rattle.sv_script.specs.declared.replay_fault.ReplayFault.{ReplayFault}
use Rattle.sv_script.specs.Line.{asked}
use Rattle.sv_script.specs.Printed.{shutdown_text, start_text}
use Rattle.sv_container.specs.Running.{StepsOf, StopsOf}
use Rattle.sv_container.specs.Script.{draws, ended_by}
use Rattle.sv_run.specs.declared.run_fault.RunFault.{RunFault}
use Rattle.sv_streams.specs.Calls.{AreMade, Call, Gave, ReadFailed, Took, WriteFailed, WritesAll, given, meets_end}
use Rattle.sv_streams.specs.Memory.{IsMade, MemoryState}

-- ---- the bytes of streams in memory

-- the bytes unread before some reads are the bytes read, followed by the bytes still unread
unread_before : (before after : MemoryState) (calls : List Call) → AreMade IsMade before calls after → before.unread ≡ given calls ++ after.unread
unread_before before after [] made = sym (ap (λ (stream : MemoryState). stream.unread) made)
unread_before before after (Gave bytes ∷ calls) made =
    made.1.1 ∙ ap (λ rest. bytes ++ rest) (unread_before made.0 after calls made.2) ∙ sym (append_assoc bytes (given calls) after.unread)
unread_before before after (ReadFailed ∷ calls) made =
    sym (ap (λ (stream : MemoryState). stream.unread) made.1.1) ∙ unread_before made.0 after calls made.2
unread_before before after (Took bytes ∷ calls) made =
    sym (ap (λ (stream : MemoryState). stream.unread) made.1.2) ∙ unread_before made.0 after calls made.2
unread_before before after (WriteFailed ∷ calls) made =
    sym (ap (λ (stream : MemoryState). stream.unread) made.1) ∙ unread_before made.0 after calls made.2

back_is_empty : (front back : List ℕ) → front ++ back ≡ [] → back ≡ []
back_is_empty [] back none = none
back_is_empty (b ∷ front) back none = absurd (cc)

-- if a read met the end, nothing is unread
all_given : (before after : MemoryState) (calls : List Call) → AreMade IsMade before calls after → meets_end calls ≡ true → after.unread ≡ []
all_given before after [] made ends = absurd (cc)
all_given before after (Gave [] ∷ calls) made ends =
    back_is_empty (given calls) after.unread (sym (unread_before made.0 after calls made.2) ∙ made.1.3 refl)
all_given before after (Gave (b ∷ bytes) ∷ calls) made ends = all_given made.0 after calls made.2 ends
all_given before after (ReadFailed ∷ calls) made ends = all_given made.0 after calls made.2 ends
all_given before after (Took bytes ∷ calls) made ends = all_given made.0 after calls made.2 ends
all_given before after (WriteFailed ∷ calls) made ends = all_given made.0 after calls made.2 ends

-- the bytes of the writes follow those written before
written_behind : (before after : MemoryState) (pieces : List (List ℕ)) → AreMade IsMade before (map Took pieces) after
    → after.written ≡ before.written ++ concat pieces
written_behind before after [] made = ap (λ (stream : MemoryState). stream.written) made ∙ sym (append-nil before.written)
written_behind before after (piece ∷ pieces) made =
    written_behind made.0 after pieces made.2
    ∙ ap (λ (stream : MemoryState). stream.written ++ concat pieces) made.1.2 ∙ append_assoc before.written piece (concat pieces)

text_behind : (text : List ℕ) (before after : MemoryState) → WritesAll IsMade text before (Ok tt) after → after.written ≡ before.written ++ text
text_behind text before after (pieces, calls, made, are) =
    written_behind before after pieces (subst (λ its. AreMade IsMade before its after) are.0 made) ∙ ap (λ all. before.written ++ all) are.1

-- ---- the run

ended_well : (ended : Result (Unit {0}) ReplayFault) → ◌≡◌ {A = Result (Unit {0}) RunFault} (Ok tt) (ended_by ended) → ended ≡ Ok tt
ended_well (Ok done) same = refl
ended_well (Err fault) same = absurd (cc)

module _ {S F L : Type 0} (moving : ComponentSteps S F L) where
  pub prints_its_run : WhatAScriptPrintsIsLawful moving IsMade IsMade → AScriptInMemoryPrintsItsRun moving
  prints_its_run lawful deployments script output script_after output_after ran =
      let one = lawful deployments script output (Ok tt) script_after output_after ran tt in
      let its_played = one.text.played in
      let ends = subst (λ ended. Ends (StepsOf moving draws) its_played ended one.text.after) (ended_well one.ended one.result_is) one.text.ends in
      let input =
      unread_before script script_after its_played.calls one.text.are_made
      ∙ ap (λ rest. given its_played.calls ++ rest) (all_given script script_after its_played.calls one.text.are_made ends.1)
      ∙ append-nil (given its_played.calls) in
      let its_text =
      start_text one.started.entries ++ reactions_text 1 its_played.reactions ++ shutdown_text one.text.stopped.entries in (
        its_text,
        text_behind its_text output output_after one.text.writes,
        record {
          words = one.words;
          are_fresh = one.are_fresh;
          container = one.container;
          started = one.started;
          starts = one.starts;
          played = its_played;
          asks = ap (λ text. map asked (lines_of text)) input ∙ ap (map asked) (sym ends.2) ∙ one.text.plays.are_read;
          run = one.run;
          stopped = one.text.stopped;
          stops = subst (λ after. StopsOf moving after one.text.stopped) ends.3 one.text.stops_so;
          text = refl;
        },
      )
