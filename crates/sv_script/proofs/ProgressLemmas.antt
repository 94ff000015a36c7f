-- The progress of a replay.
use Rattle.std.proofs.Common.{◌≡◌, ℕ, ◌+◌, ◌-◌, ◌*◌, ◌<◌, ◌≤◌, Bool, true, ◌||◌, List, [], ◌∷◌, ◌++◌, None, Some, Ok, Err, Result, refl, subst, sym, ap, ◌∙◌, inl, inr, length, length-append, map, arith}
use Rattle.std.proofs.lemmas.List.{map-append}
use Rattle.std.specs.Option.{option_to_list}
use Rattle.sv_script.specs.Asked.{event_of, events_of, moment_behind, moment_behind_all, reaction_text, reactions_text}
use Rattle.sv_script.specs.Lines.{AreNext, IsNext}
use Rattle.sv_script.specs.PlaySteps.{Accepts, PlaysLine}
use Rattle.sv_script.specs.Replay.{AnswersLine, Played, Plays, Replays}
use Rattle.sv_script.specs.declared.play.Course.{Course}
use Rattle.sv_script.specs.declared.replay_fault.ReplayFault.{ReplayFault}
use Rattle.sv_script.specs.declared.replay_fault.ReplayFault.TheVariants as faults
use Rattle.sv_run.specs.Events.{Happening}
use Rattle.sv_run.specs.Reacting.{Reacting, Reacts}
use Rattle.sv_run.specs.declared.happening.Reaction.{Reaction}
use Rattle.sv_run.specs.declared.step_fault.StepFault.{StepFault}
use Rattle.sv_script.specs.Line.{asked}
use Rattle.sv_script.specs.declared.line.LineFault.{LineFault}
use Rattle.sv_script.specs.declared.line.ScriptLine.{ScriptLine}
use Rattle.sv_streams.specs.Calls.{AreMade, Call, Making, WritesAll, failures, given, meets_end, reads, taken}
use Rattle.sv_streams.specs.Lines.{AreReads, LinesState, NextLine, max_reads, new_lines, piece_bytes, unread}
use Rattle.sv_streams.specs.declared.lines_fault.LinesFault.TheVariants.{ReadFailed, TooManyReads, NoMemory}
use Rattle.sv_streams.proofs.CallJoins.{end_join, failures_join, given_join, made_join, reads_join, taken_join, writes_join}
use Rattle.sv_script.proofs.LineLemmas.{are_lines, grows, line_more}
use Rattle.sv_script.proofs.RunJoins.{events_more, moment_more, text_join}
use Rattle.sv_run.proofs.Reactions.{reacts_join}

-- an upper bound of the number of lines that are left
abbrev pub left : LinesState → ℕ
left state = piece_bytes * (max_reads - state.reads) + length (unread state)

-- the reads that were made
pub record Reading (calls : List Call) (failed : ℕ) (state : LinesState) : Type 0 where
  pub no_writes : taken calls ≡ []
  pub fails : failures calls ≡ failed
  pub counted : state.reads ≡ reads calls
  pub within : state.reads ≤ max_reads
  pub ended : state.ended ≡ meets_end calls

-- the lines that were played, and the reactions to them
pub record Progress {R I O : Type 0} (steps : Reacting R) (gives : Making I) (takes : Making O) (before : R) (script : I) (output : O)
    (state : LinesState) (course : Course) (handler : R) (source : I) (sink : O) : Type 0 where
  pub calls : List Call
  pub are_made : AreMade gives script calls source
  pub reading : Reading calls 0 state
  pub lines : List (List ℕ)
  pub are_next : AreNext state.ended lines (given calls) (unread state)
  pub said : List ScriptLine
  pub are_read : map asked lines ≡ map Ok said
  pub reactions : List Reaction
  pub reacts : Reacts steps before (events_of 0 said) (map Ok reactions) handler
  pub writes : WritesAll takes (reactions_text 1 reactions) output (Ok tt) sink
  pub is_moment : course.moment ≡ moment_behind_all 0 said
  pub is_lines : course.lines ≡ length lines
  pub is_events : course.events ≡ length reactions
  pub is_less : course.events ≤ course.lines
  pub room : course.lines + left state ≤ piece_bytes * max_reads

reads_on : (calls more : List Call) (failed : ℕ) (state after : LinesState) → Reading calls 0 state → AreReads state more failed after → Reading (calls ++ more) failed after
reads_on calls more failed state after reading are =
    let none : failures calls ≡ 0 = reading.fails in
    let some : failures more ≡ failed = are.failed in
    let all : failures (calls ++ more) ≡ failures calls + failures more = failures_join calls more in
    let counted_yet : state.reads ≡ reads calls = reading.counted in
    let counted_more : after.reads ≡ state.reads + reads more = are.counted in
    let counted_all : reads (calls ++ more) ≡ reads calls + reads more = reads_join calls more in
    record {
      no_writes = taken_join calls more ∙ ap (λ bytes. bytes ++ taken more) reading.no_writes ∙ are.reads_alone;
      fails = omega arith;
      counted = omega arith;
      within = are.within reading.within;
      ended = are.ended ∙ ap (λ met. met || meets_end more) reading.ended ∙ sym (end_join calls more);
    }

behind_end : (state after : LinesState) (more : List Call) (failed : ℕ) → AreReads state more failed after → state.ended ≡ true → (given more ≡ []) × (after.ended ≡ true)
behind_end state after more failed are ended = (ap given (are.none_behind ended), are.ended ∙ ap (λ met. met || meets_end more) ended)

fell_by : (reads reads_then more given text left line : ℕ) → given ≤ 8192 * more → reads_then ≡ reads + more → reads_then ≤ 1000000
    → text + given ≡ line + (1 + left) → 8192 * (1000000 - reads_then) + left + 1 ≤ 8192 * (1000000 - reads) + text
fell_by reads reads_then more given text left line measured counted within is = omega arith

-- reading a line lowers the bound
fell : (state after : LinesState) (more : List Call) (failed : ℕ) (line : List ℕ) → AreReads state more failed after → state.reads ≤ max_reads
    → IsNext after.ended line (unread state ++ given more) (unread after) → left after + 1 ≤ left state
fell state after more failed line are within (inl (none, is)) =
    let lengths : length (unread state) + length (given more) ≡ length line + length (10 ∷ unread after) =
    sym (length-append (unread state) (given more)) ∙ ap length is ∙ length-append line (10 ∷ unread after) in
    fell_by state.reads after.reads (reads more) (length (given more)) (length (unread state)) (length (unread after)) (length line)
    are.measured are.counted (are.within within) (omega arith)
fell state after more failed line are within (inr ((none, is, some), empty, ended)) =
    let lengths : length (unread state) + length (given more) ≡ length line = sym (length-append (unread state) (given more)) ∙ ap length is in
    let none_left : length (unread after) ≡ 0 = ap length empty in
    fell_by state.reads after.reads (reads more) (length (given more)) (length (unread state)) (length (unread after)) (length line - 1)
    are.measured are.counted (are.within within) (omega arith)

module _ {R I O : Type 0} (steps : Reacting R) (gives : Making I) (takes : Making O) (before : R) (script : I) (output : O) where
  pub no_progress : Progress steps gives takes before script output new_lines (record { moment = 0; lines = 0; events = 0 }) before script output
  no_progress = record {
    calls = [];
    are_made = refl;
    reading = record { no_writes = refl; fails = refl; counted = refl; within = omega arith; ended = refl };
    lines = [];
    are_next = refl;
    said = [];
    are_read = refl;
    reactions = [];
    reacts = refl;
    writes = ([], [], refl, (refl, refl));
    is_moment = refl;
    is_lines = refl;
    is_events = refl;
    is_less = omega arith;
    room = omega arith;
  }

  module _ (state after : LinesState) (course : Course) (handler : R) (source source_after : I) (sink : O) (p : Progress steps gives takes before script output state course handler source sink) where
    -- the next lines in the text read by then
    next_lines : (more : List Call) (failed : ℕ) → AreReads state more failed after → AreNext after.ended p.lines (given (p.calls ++ more)) (unread state ++ given more)
    next_lines more failed are =
        let P : List ℕ → Type 0 = λ text. AreNext after.ended p.lines text (unread state ++ given more) in
        subst P (sym (given_join p.calls more))
        (grows state.ended after.ended (given more) p.lines (given p.calls) (unread state) (behind_end state after more failed are) p.are_next)

    -- a line that was read
    next_line_more : (more : List Call) (line : List ℕ) → AreReads state more 0 after → IsNext after.ended line (unread state ++ given more) (unread after)
        → AreNext after.ended (p.lines ++ line ∷ []) (given (p.calls ++ more)) (unread after)
    next_line_more more line are next = line_more after.ended p.lines line (given (p.calls ++ more)) (unread state ++ given more) (unread after) (next_lines more 0 are) next

    lines_read : (line : List ℕ) (said : ScriptLine) → asked line ≡ Ok said → map asked (p.lines ++ line ∷ []) ≡ map Ok (p.said ++ said ∷ [])
    lines_read line said is_read =
        map-append asked p.lines (line ∷ [])
        ∙ ap (λ front. front ++ asked line ∷ []) p.are_read
        ∙ ap (λ (read : Result ScriptLine LineFault). map Ok p.said ++ read ∷ []) is_read
        ∙ sym (map-append Ok p.said (said ∷ []))

    events_met : (said : ScriptLine) (reactions : List Reaction) (handler_after : R) → Accepts steps takes course handler sink said reactions handler_after
        → Reacts steps before (events_of 0 (p.said ++ said ∷ [])) (map Ok (p.reactions ++ reactions)) handler_after
    events_met said reactions handler_after accepts =
        let P : List Happening → Type 0 = λ events. Reacts steps before events (map Ok (p.reactions ++ reactions)) handler_after in
        let Q : List (Result Reaction StepFault) → Type 0 = λ answers.
        Reacts steps before (events_of 0 p.said ++ option_to_list (event_of course.moment said)) answers handler_after in
        let same : events_of 0 p.said ++ option_to_list (event_of course.moment said) ≡ events_of 0 (p.said ++ said ∷ []) =
        ap (λ (moment : ℕ). events_of 0 p.said ++ option_to_list (event_of moment said)) p.is_moment ∙ sym (events_more 0 p.said said) in
        subst P same (subst Q (sym (map-append Ok p.reactions reactions))
        (reacts_join steps before handler handler_after (events_of 0 p.said) (option_to_list (event_of course.moment said)) (map Ok p.reactions) (map Ok reactions)
        p.reacts accepts.reacts))

    texts : (reactions : List Reaction) → reactions_text 1 p.reactions ++ reactions_text (course.events + 1) reactions ≡ reactions_text 1 (p.reactions ++ reactions)
    texts reactions =
        let counted : course.events ≡ length p.reactions = p.is_events in
        let same : course.events + 1 ≡ 1 + length p.reactions = omega arith in
        ap (λ (n : ℕ). reactions_text 1 p.reactions ++ reactions_text n reactions) same ∙ sym (text_join 1 p.reactions reactions)

    -- one more line was played
    pub line_played : (course_after : Course) (handler_after : R) (sink_after : O) (line : List ℕ) → NextLine gives source state (Ok (Some line)) source_after after
        → PlaysLine steps takes course handler sink line (Ok tt) course_after handler_after sink_after
        → Progress steps gives takes before script output after course_after handler_after source_after sink_after
    line_played course_after handler_after sink_after line (more, made, are, next) (said, reactions, is_read, accepts, writes, is_after) =
        let P : List ℕ → Type 0 = λ text. WritesAll takes text output (Ok tt) sink_after in
        let lines_counted : course_after.lines ≡ course.lines + 1 = ap (λ (c : Course). c.lines) is_after in
        let events_counted : course_after.events ≡ course.events + length reactions = ap (λ (c : Course). c.events) is_after in
        let lines_yet : course.lines ≡ length p.lines = p.is_lines in
        let events_yet : course.events ≡ length p.reactions = p.is_events in
        let less_yet : course.events ≤ course.lines = p.is_less in
        let one : length reactions ≤ 1 = accepts.at_most_one in
        let room_yet : course.lines + left state ≤ piece_bytes * max_reads = p.room in
        let falls : left after + 1 ≤ left state = fell state after more 0 line are p.reading.within next in
        let all_lines : length (p.lines ++ line ∷ []) ≡ length p.lines + 1 = length-append p.lines (line ∷ []) in
        let all_reactions : length (p.reactions ++ reactions) ≡ length p.reactions + length reactions = length-append p.reactions reactions in
        record {
          calls = p.calls ++ more;
          are_made = made_join gives script source source_after p.calls more p.are_made made;
          reading = reads_on p.calls more 0 state after p.reading are;
          lines = p.lines ++ line ∷ [];
          are_next = next_line_more more line are next;
          said = p.said ++ said ∷ [];
          are_read = lines_read line said is_read;
          reactions = p.reactions ++ reactions;
          reacts = events_met said reactions handler_after accepts;
          writes = subst P (texts reactions) (writes_join takes (reactions_text 1 p.reactions) (reactions_text (course.events + 1) reactions) output sink sink_after (Ok tt) p.writes writes);
          is_moment = ap (λ (c : Course). c.moment) is_after ∙ ap (λ (m : ℕ). moment_behind m said) p.is_moment ∙ sym (moment_more 0 p.said said);
          is_lines = omega arith;
          is_events = omega arith;
          is_less = omega arith;
          room = omega arith;
        }

    -- playing a line lowers the bound
    pub line_less : (line : List ℕ) → NextLine gives source state (Ok (Some line)) source_after after → left after < left state
    line_less line (more, made, are, next) =
        let falls : left after + 1 ≤ left state = fell state after more 0 line are p.reading.within next in omega arith

    -- the progress of the replay after further reads
    abbrev pub played_to : List Call → Played R
    played_to more = record {
      calls = p.calls ++ more;
      lines = p.lines;
      rest = unread state ++ given more;
      said = p.said;
      reactions = p.reactions;
      handler = handler;
    }

    plays_to : (more : List Call) (failed : ℕ) → AreReads state more failed after → Plays steps before (played_to more)
    plays_to more failed are =
        let reading = reads_on p.calls more failed state after p.reading are in
        let within : after.reads ≤ max_reads = reading.within in
        let counted : after.reads ≡ reads (p.calls ++ more) = reading.counted in
        let P : Bool → Type 0 = λ ended. AreNext ended p.lines (given (p.calls ++ more)) (unread state ++ given more) in
        record {
          no_writes = reading.no_writes;
          counted = omega arith;
          are_next = subst P reading.ended (next_lines more failed are);
          are_read = p.are_read;
          reacts = p.reacts;
        }

    -- the end was met
    pub end_met : NextLine gives source state (Ok None) source_after after → Replays steps gives takes before script output (Ok tt) handler source_after sink
    end_met (more, made, are, (none, empty, ended)) =
        let reading = reads_on p.calls more 0 state after p.reading are in
        let P : List ℕ → Type 0 = λ rest. AreNext after.ended p.lines (given (p.calls ++ more)) rest in
        record {
          played = played_to more;
          plays = plays_to more 0 are;
          are_made = made_join gives script source source_after p.calls more p.are_made made;
          writes = p.writes;
          ends = (reading.fails, sym reading.ended ∙ ended, are_lines after.ended p.lines (given (p.calls ++ more)) (subst P none (next_lines more 0 are)), refl);
        }

    -- a read failed
    pub read_failed : (number : ℕ) → number ≡ course.lines + 1 → NextLine gives source state (Err ReadFailed) source_after after
        → Replays steps gives takes before script output (Err (faults.Script number)) handler source_after sink
    read_failed number is_number (more, made, are, (kept, no_feed)) =
        let reading = reads_on p.calls more 1 state after p.reading are in
        record {
          played = played_to more;
          plays = plays_to more 1 are;
          are_made = made_join gives script source source_after p.calls more p.are_made made;
          writes = p.writes;
          ends = (is_number ∙ ap (λ (n : ℕ). n + 1) p.is_lines, inl (inr (no_feed, inl reading.fails), refl));
        }

    -- the maximum number of reads was made
    pub too_many : (number : ℕ) → number ≡ course.lines + 1 → NextLine gives source state (Err TooManyReads) source_after after
        → Replays steps gives takes before script output (Err (faults.Script number)) handler source_after sink
    too_many number is_number (more, made, are, (kept, no_feed, many)) =
        let reading = reads_on p.calls more 0 state after p.reading are in
        let most : max_reads ≤ after.reads = many in
        let counted : after.reads ≡ reads (p.calls ++ more) = reading.counted in
        record {
          played = played_to more;
          plays = plays_to more 0 are;
          are_made = made_join gives script source source_after p.calls more p.are_made made;
          writes = p.writes;
          ends = (is_number ∙ ap (λ (n : ℕ). n + 1) p.is_lines, inl (inr (no_feed, inr (reading.fails, omega arith)), refl));
        }

    -- memory for a line ran out
    pub no_line : NextLine gives source state (Err NoMemory) source_after after → Replays steps gives takes before script output (Err faults.NoMemory) handler source_after sink
    no_line (more, made, are, kept) = record {
      played = played_to more;
      plays = plays_to more 0 are;
      are_made = made_join gives script source source_after p.calls more p.are_made made;
      writes = p.writes;
      ends = inl ((reads_on p.calls more 0 state after p.reading are).fails, refl);
    }

    next_then : (more : List Call) (line : List ℕ) → AreReads state more 0 after → IsNext after.ended line (unread state ++ given more) (unread after)
        → IsNext (meets_end (p.calls ++ more)) line (unread state ++ given more) (unread after)
    next_then more line are next =
        let P : Bool → Type 0 = λ ended. IsNext ended line (unread state ++ given more) (unread after) in
        subst P (reads_on p.calls more 0 state after p.reading are).ended next

    none_failed : (more : List Call) → AreReads state more 0 after → failures (p.calls ++ more) ≡ 0
    none_failed more are = (reads_on p.calls more 0 state after p.reading are).fails

    answers_then : (line : List ℕ) (answer : Result Reaction StepFault) (handler_after : R) → AnswersLine steps course.moment handler line answer handler_after
        → AnswersLine steps (moment_behind_all 0 p.said) handler line answer handler_after
    answers_then line answer handler_after answers =
        let P : ℕ → Type 0 = λ moment. AnswersLine steps moment handler line answer handler_after in subst P p.is_moment answers

    -- a line ended the replay
    pub line_failed : (fault : ReplayFault) (course_after : Course) (handler_after : R) (sink_after : O) (line : List ℕ) → NextLine gives source state (Ok (Some line)) source_after after
        → PlaysLine steps takes course handler sink line (Err fault) course_after handler_after sink_after
        → Replays steps gives takes before script output (Err fault) handler_after source_after sink_after
    line_failed (faults.Script number) course_after handler_after sink_after line (more, made, are, next) (is_line, same, inl (formless, stays)) =
        let P : O → Type 0 = λ o. WritesAll takes (reactions_text 1 p.reactions) output (Ok tt) o in
        record {
          played = played_to more;
          plays = plays_to more 0 are;
          are_made = made_join gives script source source_after p.calls more p.are_made made;
          writes = subst P (sym same) p.writes;
          ends = (is_line ∙ ap (λ (n : ℕ). n + 1) p.is_lines, inl (inl (none_failed more are, (line, unread after, next_then more line are next, formless)), stays));
        }
    line_failed (faults.Script number) course_after handler_after sink_after line (more, made, are, next) (is_line, same, inr (refusal, blamed, answers)) =
        let P : O → Type 0 = λ o. WritesAll takes (reactions_text 1 p.reactions) output (Ok tt) o in
        record {
          played = played_to more;
          plays = plays_to more 0 are;
          are_made = made_join gives script source source_after p.calls more p.are_made made;
          writes = subst P (sym same) p.writes;
          ends = (
            is_line ∙ ap (λ (n : ℕ). n + 1) p.is_lines,
            inr (refusal, blamed, (none_failed more are, (line, unread after, next_then more line are next, answers_then line (Err refusal) handler_after answers))),
          );
        }
    line_failed faults.NoMemory course_after handler_after sink_after line (more, made, are, next) (same, inl stays) =
        let P : O → Type 0 = λ o. WritesAll takes (reactions_text 1 p.reactions) output (Ok tt) o in
        record {
          played = played_to more;
          plays = plays_to more 0 are;
          are_made = made_join gives script source source_after p.calls more p.are_made made;
          writes = subst P (sym same) p.writes;
          ends = inl (none_failed more are, stays);
        }
    line_failed faults.NoMemory course_after handler_after sink_after line (more, made, are, next) (same, inr (answer, wants, answers)) =
        let P : O → Type 0 = λ o. WritesAll takes (reactions_text 1 p.reactions) output (Ok tt) o in
        record {
          played = played_to more;
          plays = plays_to more 0 are;
          are_made = made_join gives script source source_after p.calls more p.are_made made;
          writes = subst P (sym same) p.writes;
          ends = inr (answer, wants, (none_failed more are, (line, unread after, next_then more line are next, answers_then line answer handler_after answers)));
        }
    line_failed faults.Output course_after handler_after sink_after line (more, made, are, next) (said, reaction, is_read, accepts, (failed, writes)) =
        let reading = reads_on p.calls more 0 state after p.reading are in
        let within : after.reads ≤ max_reads = reading.within in
        let counted : after.reads ≡ reads (p.calls ++ more) = reading.counted in
        let P : ℕ → Type 0 = λ number. WritesAll takes (reaction_text number reaction) sink (Err failed) sink_after in
        let Q : Bool → Type 0 = λ ended. AreNext ended (p.lines ++ line ∷ []) (given (p.calls ++ more)) (unread after) in
        record {
          played = record {
            calls = p.calls ++ more;
            lines = p.lines ++ line ∷ [];
            rest = unread after;
            said = p.said ++ said ∷ [];
            reactions = p.reactions ++ reaction ∷ [];
            handler = handler_after;
          };
          plays = record {
            no_writes = reading.no_writes;
            counted = omega arith;
            are_next = subst Q reading.ended (next_line_more more line are next);
            are_read = lines_read line said is_read;
            reacts = events_met said (reaction ∷ []) handler_after accepts;
          };
          are_made = made_join gives script source source_after p.calls more p.are_made made;
          writes = record {
            earlier = p.reactions;
            last = reaction;
            are = refl;
            between = sink;
            writes = p.writes;
            failed = failed;
            fails = subst P (ap (λ (n : ℕ). n + 1) p.is_events) writes;
          };
          ends = (reading.fails, refl);
        }
