-- The event loop as a run of a container.
use Rattle.std.proofs.Common.{◌≡◌, ◌⊎◌, ℕ, Bool, true, false, cond, ltb, nat_eq, eqb-true, inl, inr, List, [], ◌∷◌, ◌++◌, Some, Result, Ok, Err, ◌<◌, refl, sym, ap, ◌∙◌, subst, arith, append-nil, flat_map}
use Rattle.std.proofs.lemmas.Bool.{ltb-true}
use Rattle.std.specs.List.{AllByRecursion}
use Rattle.sv_connection.specs.Connection.{AreTold}
use Rattle.sv_connection.specs.Course.{Along}
use Rattle.sv_connection.specs.Known.{none_left, place_in}
use Rattle.sv_connection.specs.LoopLaws.{calls_of, end_calls, handed_of, sends_of}
use Rattle.sv_connection.specs.LoopRuns.{AnEventLoopIsARun, IsARunOfAll, IsOverBy, IsServed, IsTaken, call_for, handed_to, of_all, round_notes, sent_to}
use Rattle.sv_connection.specs.Loops.{Goes, Refuses, times_of}
use Rattle.sv_connection.specs.Notes.{Answers, Edits, NoneWaits, Note, Of, Reports, Shows, Ticks, action_in, actions_of, answer_in, answers, event_in, events, moment_in, moments, over_by, poll_in, poll_of, poller_calls}
use Rattle.sv_connection.specs.Polling.{Accept, AreCalled, Close, PollerCall, Polling}
use Rattle.sv_connection.specs.Rounds.{Round, Rounds, ServesAll}
use Rattle.sv_connection.specs.Slots.{Accepted, Accepts, Action, Arms, Blocks, Closes, Ends, EndsUntold, Hands, Leads, Open, Opens, OpensUntold, Over, Reads, Slot, TurnsAway, Unused, Writes}
use Rattle.sv_connection.specs.Turns.{over_event}
use Rattle.sv_connection.specs.Ways.{Ways}
use Rattle.sv_connection.specs.declared.close_reason.CloseReason.{CloseReason}
use Rattle.sv_connection.specs.declared.close_reason.CloseReason.TheVariants.{AnswerCloses, GivenUp, PeerEnded, ReadFails, WriteFails}
use Rattle.sv_connection.specs.declared.event_loop.EventLoop.{EventLoop}
use Rattle.sv_connection.specs.declared.limits.Limits.{Limits}
use Rattle.sv_connection.specs.declared.poller.PollEvent.TheVariants.{Stop}
use Rattle.sv_connection.specs.declared.over.Over as over
use Rattle.sv_connection.specs.declared.over.Over.TheVariants.{Closed, Lost}
use Rattle.sv_policy.specs.declared.edit.Edit.{Edit}
use Rattle.sv_run.specs.Contexts.{Theory}
use Rattle.sv_run.specs.Events.{Edited, Happening, Opened, Piece, Tick}
use Rattle.sv_run.specs.Reacting.{Reacting, Reacts, StepsLike}
use Rattle.sv_run.specs.State.{State}
use Rattle.sv_run.specs.declared.happening.Reaction.{Reaction}
use Rattle.sv_run.specs.declared.step_fault.StepFault.{StepFault}
use Rattle.sv_run.proofs.Reactions.{reacts_join, run_of}
use Rattle.sv_streams.specs.Calls.{given, taken}
use Rattle.sv_streams.proofs.CallJoins.{given_join, taken_join}
use Rattle.sv_connection.proofs.AloneLemmas.{all_join, flat_join, flat_one_more}
use Rattle.sv_connection.proofs.FinishingLemmas.{IsQuiet, finishes_quiet}
use Rattle.sv_connection.proofs.Joining.{along_join, called_join, goes_join, takes_react, told_join}
use Rattle.sv_connection.proofs.LawLemmas.{EndsBy, ahead_of, course_given, course_sent, ends_so, is_yet, no_unused, unsent_of}
use Rattle.sv_connection.proofs.Rounding.{rounds_are_one}
use Rattle.sv_wire.specs.declared.inbox.Awaited.{Awaited}

-- ---- The events of notes, their times and results

end_time : (number : ℕ) (ended : over.Over) → flat_map times_of (over_event number ended ∷ []) ≡ []
end_time number Closed = refl
end_time number Lost = refl

-- What depends on the pieces of a connection, and on nothing else.
pub record OfPieces (bytes : ℕ → Happening → Result Reaction StepFault → List ℕ) (piece_bytes : List ℕ → Reaction → List ℕ) : Type 0 where
  pub piece : (number connection moment : ℕ) (text : List ℕ) (reaction : Reaction)
      → bytes number (Piece connection text moment) (Ok reaction) ≡ cond (nat_eq number connection) (piece_bytes text reaction) []
  pub opened : (number connection : ℕ) (reaction : Reaction) → bytes number (Opened connection) (Ok reaction) ≡ []
  pub ended : (number connection : ℕ) (over_as : over.Over) (reaction : Reaction) → bytes number (over_event connection over_as) (Ok reaction) ≡ []
  pub quiet : (number moment : ℕ) (reaction : Reaction) → bytes number (Tick moment) (Ok reaction) ≡ []
  pub edited : (number : ℕ) (path : List ℕ) (edit : Edit) (reaction : Reaction) → bytes number (Edited path edit) (Ok reaction) ≡ []
  pub refused : (number : ℕ) (happening : Happening) (fault : StepFault) → bytes number happening (Err fault) ≡ []

handed_pieces : OfPieces handed_to (λ text reaction. text)
handed_pieces = record {
  piece = λ number connection moment text reaction. refl;
  opened = λ number connection reaction. refl;
  ended = end_handed;
  quiet = λ number moment reaction. refl;
  edited = λ number path edit reaction. refl;
  refused = none_handed;
}
  where
    end_handed : (number connection : ℕ) (over_as : over.Over) (reaction : Reaction) → handed_to number (over_event connection over_as) (Ok reaction) ≡ []
    end_handed number connection Closed reaction = refl
    end_handed number connection Lost reaction = refl

    none_handed : (number : ℕ) (happening : Happening) (fault : StepFault) → handed_to number happening (Err fault) ≡ []
    none_handed number (Piece connection text moment) fault = refl
    none_handed number happening fault = refl

sent_pieces : OfPieces sent_to (λ text reaction. reaction.sends)
sent_pieces = record {
  piece = λ number connection moment text reaction. refl;
  opened = λ number connection reaction. refl;
  ended = end_sent;
  quiet = λ number moment reaction. refl;
  edited = λ number path edit reaction. refl;
  refused = none_sent;
}
  where
    end_sent : (number connection : ℕ) (over_as : over.Over) (reaction : Reaction) → sent_to number (over_event connection over_as) (Ok reaction) ≡ []
    end_sent number connection Closed reaction = refl
    end_sent number connection Lost reaction = refl

    none_sent : (number : ℕ) (happening : Happening) (fault : StepFault) → sent_to number happening (Err fault) ≡ []
    none_sent number (Piece connection text moment) fault = refl
    none_sent number happening fault = refl

-- Each event has a result.
abbrev AreAsMany : List Happening → List (Result Reaction StepFault) → Type 0
AreAsMany [] [] = Unit {0}
AreAsMany (happening ∷ happenings) (result ∷ results) = AreAsMany happenings results
AreAsMany happenings results = ⊥

many_join : (happenings more : List Happening) (results others : List (Result Reaction StepFault)) → AreAsMany happenings results → AreAsMany more others
    → AreAsMany (happenings ++ more) (results ++ others)
many_join [] more [] others first later = later
many_join (happening ∷ happenings) more (result ∷ results) others first later = many_join happenings more results others first later
many_join [] more (result ∷ results) others first later = absurd first
many_join (happening ∷ happenings) more [] others first later = absurd first

front_none : (front rest : List ℕ) → front ≡ [] → front ++ rest ≡ rest
front_none front rest none = ap (λ text. text ++ rest) none

module _ {S : Type 0} where
  action_times : (number : ℕ) (action : Action S) → moment_in (Of number action) ≡ flat_map times_of (event_in (Of number action))
  action_times number (Opens reaction) = refl
  action_times number (Hands bytes moment reaction awaited) = refl
  action_times number (Ends cause stream closing reaction) = sym (end_time number (over_by cause))
  action_times number (Accepts stream) = refl
  action_times number (Reads bytes) = refl
  action_times number (Writes bytes) = refl
  action_times number Blocks = refl
  action_times number Arms = refl
  action_times number OpensUntold = refl
  action_times number (EndsUntold cause stream closing) = refl
  action_times number (TurnsAway stream closing) = refl
  action_times number (Closes stream closing) = refl

  note_times : (note : Note S) → moment_in note ≡ flat_map times_of (event_in note)
  note_times (Of number action) = action_times number action
  note_times (Ticks moment reaction) = refl
  note_times (Edits path edit reaction) = refl
  note_times (Reports event) = refl
  note_times (NoneWaits number) = refl
  note_times (Answers figures asked) = refl
  note_times (Shows figures) = refl

  pub times_so : (notes : List (Note S)) → moments notes ≡ flat_map times_of (events notes)
  times_so [] = refl
  times_so (note ∷ notes) =
      (λ i. note_times note i ++ times_so notes i) ∙ sym (flat_join times_of (event_in note) (events notes))

  action_taken : (number : ℕ) (action : Action S) → AllByRecursion IsTaken (answer_in (Of number action))
  action_taken number (Opens reaction) = (tt, tt)
  action_taken number (Hands bytes moment reaction awaited) = (tt, tt)
  action_taken number (Ends cause stream closing reaction) = (tt, tt)
  action_taken number (Accepts stream) = tt
  action_taken number (Reads bytes) = tt
  action_taken number (Writes bytes) = tt
  action_taken number Blocks = tt
  action_taken number Arms = tt
  action_taken number OpensUntold = tt
  action_taken number (EndsUntold cause stream closing) = tt
  action_taken number (TurnsAway stream closing) = tt
  action_taken number (Closes stream closing) = tt

  note_taken : (note : Note S) → AllByRecursion IsTaken (answer_in note)
  note_taken (Of number action) = action_taken number action
  note_taken (Ticks moment reaction) = (tt, tt)
  note_taken (Edits path edit reaction) = (tt, tt)
  note_taken (Reports event) = tt
  note_taken (NoneWaits number) = tt
  note_taken (Answers figures asked) = tt
  note_taken (Shows figures) = tt

  pub all_taken : (notes : List (Note S)) → AllByRecursion IsTaken (answers notes)
  all_taken [] = tt
  all_taken (note ∷ notes) = all_join IsTaken (answer_in note) (answers notes) (note_taken note) (all_taken notes)

  action_many : (number : ℕ) (action : Action S) → AreAsMany (event_in (Of number action)) (answer_in (Of number action))
  action_many number (Opens reaction) = tt
  action_many number (Hands bytes moment reaction awaited) = tt
  action_many number (Ends cause stream closing reaction) = tt
  action_many number (Accepts stream) = tt
  action_many number (Reads bytes) = tt
  action_many number (Writes bytes) = tt
  action_many number Blocks = tt
  action_many number Arms = tt
  action_many number OpensUntold = tt
  action_many number (EndsUntold cause stream closing) = tt
  action_many number (TurnsAway stream closing) = tt
  action_many number (Closes stream closing) = tt

  note_many : (note : Note S) → AreAsMany (event_in note) (answer_in note)
  note_many (Of number action) = action_many number action
  note_many (Ticks moment reaction) = tt
  note_many (Edits path edit reaction) = tt
  note_many (Reports event) = tt
  note_many (NoneWaits number) = tt
  note_many (Answers figures asked) = tt
  note_many (Shows figures) = tt

  same_length : (notes : List (Note S)) → AreAsMany (events notes) (answers notes)
  same_length [] = tt
  same_length (note ∷ notes) = many_join (event_in note) (events notes) (answer_in note) (answers notes) (note_many note) (same_length notes)

  -- ---- The bytes of one connection

  module _ (bytes : ℕ → Happening → Result Reaction StepFault → List ℕ) (piece_bytes : List ℕ → Reaction → List ℕ) (of : OfPieces bytes piece_bytes) (number : ℕ) where
    -- The bytes of an action.
    abbrev pub by_action : Action S → List ℕ
    by_action (Hands text moment reaction awaited) = piece_bytes text reaction
    by_action other = []

    quiet_action : (other : ℕ) (action : Action S) (rest : List ℕ) (actions : List (Action S)) → by_action action ≡ [] → rest ≡ flat_map by_action actions
        → rest ≡ flat_map by_action (cond (nat_eq number other) (action ∷ []) [] ++ actions)
    quiet_action other action rest actions none is = by (nat_eq number other)
      where
        by : (b : Bool) → rest ≡ flat_map by_action (cond b (action ∷ []) [] ++ actions)
        by true = is ∙ sym (front_none (by_action action) (flat_map by_action actions) none)
        by false = is

    piece_action : (b : Bool) (action : Action S) (rest : List ℕ) (actions : List (Action S)) → rest ≡ flat_map by_action actions
        → cond b (by_action action) [] ++ rest ≡ flat_map by_action (cond b (action ∷ []) [] ++ actions)
    piece_action true action rest actions is = ap (λ text. by_action action ++ text) is
    piece_action false action rest actions is = is

    pub bytes_so : (notes : List (Note S)) → of_all (bytes number) (events notes) (answers notes) ≡ flat_map by_action (actions_of number notes)
    bytes_so [] = refl
    bytes_so (Of other (Hands text moment reaction awaited) ∷ notes) =
        ap (λ front. front ++ of_all (bytes number) (events notes) (answers notes)) (of.piece number other moment text reaction)
        ∙ piece_action (nat_eq number other) (Hands text moment reaction awaited) (of_all (bytes number) (events notes) (answers notes)) (actions_of number notes) (bytes_so notes)
    bytes_so (Of other (Opens reaction) ∷ notes) =
        front_none (bytes number (Opened other) (Ok reaction)) (of_all (bytes number) (events notes) (answers notes)) (of.opened number other reaction)
        ∙ quiet_action other (Opens reaction) (of_all (bytes number) (events notes) (answers notes)) (actions_of number notes) refl (bytes_so notes)
    bytes_so (Of other (Ends cause stream closing reaction) ∷ notes) =
        front_none (bytes number (over_event other (over_by cause)) (Ok reaction)) (of_all (bytes number) (events notes) (answers notes)) (of.ended number other (over_by cause) reaction)
        ∙ quiet_action other (Ends cause stream closing reaction) (of_all (bytes number) (events notes) (answers notes)) (actions_of number notes) refl (bytes_so notes)
    bytes_so (Of other (Accepts stream) ∷ notes) = quiet_action other (Accepts stream) (of_all (bytes number) (events notes) (answers notes)) (actions_of number notes) refl (bytes_so notes)
    bytes_so (Of other (Reads text) ∷ notes) = quiet_action other (Reads text) (of_all (bytes number) (events notes) (answers notes)) (actions_of number notes) refl (bytes_so notes)
    bytes_so (Of other (Writes text) ∷ notes) = quiet_action other (Writes text) (of_all (bytes number) (events notes) (answers notes)) (actions_of number notes) refl (bytes_so notes)
    bytes_so (Of other Blocks ∷ notes) = quiet_action other Blocks (of_all (bytes number) (events notes) (answers notes)) (actions_of number notes) refl (bytes_so notes)
    bytes_so (Of other Arms ∷ notes) = quiet_action other Arms (of_all (bytes number) (events notes) (answers notes)) (actions_of number notes) refl (bytes_so notes)
    bytes_so (Of other OpensUntold ∷ notes) = quiet_action other OpensUntold (of_all (bytes number) (events notes) (answers notes)) (actions_of number notes) refl (bytes_so notes)
    bytes_so (Of other (EndsUntold cause stream closing) ∷ notes) =
        quiet_action other (EndsUntold cause stream closing) (of_all (bytes number) (events notes) (answers notes)) (actions_of number notes) refl (bytes_so notes)
    bytes_so (Of other (TurnsAway stream closing) ∷ notes) =
        quiet_action other (TurnsAway stream closing) (of_all (bytes number) (events notes) (answers notes)) (actions_of number notes) refl (bytes_so notes)
    bytes_so (Of other (Closes stream closing) ∷ notes) =
        quiet_action other (Closes stream closing) (of_all (bytes number) (events notes) (answers notes)) (actions_of number notes) refl (bytes_so notes)
    bytes_so (Ticks moment reaction ∷ notes) =
        front_none (bytes number (Tick moment) (Ok reaction)) (of_all (bytes number) (events notes) (answers notes)) (of.quiet number moment reaction) ∙ bytes_so notes
    bytes_so (Edits path edit reaction ∷ notes) =
        front_none (bytes number (Edited path edit) (Ok reaction)) (of_all (bytes number) (events notes) (answers notes)) (of.edited number path edit reaction) ∙ bytes_so notes
    bytes_so (Reports event ∷ notes) = bytes_so notes
    bytes_so (NoneWaits other ∷ notes) = bytes_so notes
    bytes_so (Answers figures asked ∷ notes) = bytes_so notes
    bytes_so (Shows figures ∷ notes) = bytes_so notes

    -- One more event, which was refused.
    pub refused_more : (notes : List (Note S)) (happening : Happening) (fault : StepFault)
        → of_all (bytes number) (events notes ++ happening ∷ []) (answers notes ++ Err fault ∷ []) ≡ of_all (bytes number) (events notes) (answers notes)
    refused_more notes happening fault = later (events notes) (answers notes) (same_length notes)
      where
        later : (happenings : List Happening) (results : List (Result Reaction StepFault)) → AreAsMany happenings results
            → of_all (bytes number) (happenings ++ happening ∷ []) (results ++ Err fault ∷ []) ≡ of_all (bytes number) happenings results
        later [] [] many = append-nil (bytes number happening (Err fault)) ∙ of.refused number happening fault
        later (first ∷ happenings) (result ∷ results) many = ap (λ rest. bytes number first result ++ rest) (later happenings results many)
        later [] (result ∷ results) many = absurd many
        later (first ∷ happenings) [] many = absurd many

  -- ---- The calls for one connection

  call_here : (number other : ℕ) → nat_eq number other ≡ true → (call : ℕ → PollerCall S) → cond (nat_eq number other) (call other ∷ []) [] ++ [] ≡ call number ∷ []
  call_here number other is call =
      ap (λ b. cond b (call other ∷ []) [] ++ []) is ∙ ap (λ n. call n ∷ []) (sym (eqb-true number other is))

  call_elsewhere : (number other : ℕ) → nat_eq number other ≡ false → (call : PollerCall S) → cond (nat_eq number other) (call ∷ []) [] ++ [] ≡ []
  call_elsewhere number other is call = ap (λ b. cond b (call ∷ []) [] ++ []) is

  none_for : (b : Bool) (number : ℕ) (action : Action S) → poll_of number action ≡ [] → [] ≡ flat_map (poll_of number) (cond b (action ∷ []) [])
  none_for true number action none = sym (append-nil (poll_of number action) ∙ none)
  none_for false number action none = refl

  calls_for_action : (number other : ℕ) (action : Action S) (b : Bool) → nat_eq number other ≡ b
      → flat_map (call_for number) (poll_of other action) ≡ flat_map (poll_of number) (cond b (action ∷ []) [])
  calls_for_action number other (Accepts stream) true is = call_here number other is (λ n. Accept n (Some stream))
  calls_for_action number other (Accepts stream) false is = call_elsewhere number other is (Accept other (Some stream))
  calls_for_action number other (Ends cause stream closing reaction) true is = call_here number other is (λ n. Close n stream closing)
  calls_for_action number other (Ends cause stream closing reaction) false is = call_elsewhere number other is (Close other stream closing)
  calls_for_action number other (EndsUntold cause stream closing) true is = call_here number other is (λ n. Close n stream closing)
  calls_for_action number other (EndsUntold cause stream closing) false is = call_elsewhere number other is (Close other stream closing)
  calls_for_action number other (TurnsAway stream closing) true is = call_here number other is (λ n. Close n stream closing)
  calls_for_action number other (TurnsAway stream closing) false is = call_elsewhere number other is (Close other stream closing)
  calls_for_action number other (Closes stream closing) true is = call_here number other is (λ n. Close n stream closing)
  calls_for_action number other (Closes stream closing) false is = call_elsewhere number other is (Close other stream closing)
  calls_for_action number other (Opens reaction) b is = none_for b number (Opens reaction) refl
  calls_for_action number other (Reads bytes) b is = none_for b number (Reads bytes) refl
  calls_for_action number other (Hands bytes moment reaction awaited) b is = none_for b number (Hands bytes moment reaction awaited) refl
  calls_for_action number other (Writes bytes) b is = none_for b number (Writes bytes) refl
  calls_for_action number other Blocks b is = none_for b number Blocks refl
  calls_for_action number other Arms b is = none_for b number Arms refl
  calls_for_action number other OpensUntold b is = none_for b number OpensUntold refl

  pub calls_so : (number : ℕ) (notes : List (Note S)) → flat_map (call_for number) (poller_calls notes) ≡ flat_map (poll_of number) (actions_of number notes)
  calls_so number [] = refl
  calls_so number (Of other action ∷ notes) =
      flat_join (call_for number) (poll_of other action) (poller_calls notes)
      ∙ (λ i. calls_for_action number other action (nat_eq number other) refl i ++ calls_so number notes i)
      ∙ sym (flat_join (poll_of number) (cond (nat_eq number other) (action ∷ []) []) (actions_of number notes))
  calls_so number (Reports event ∷ notes) = calls_so number notes
  calls_so number (NoneWaits other ∷ notes) = calls_so number notes
  calls_so number (Answers figures asked ∷ notes) = calls_so number notes
  calls_so number (Shows figures ∷ notes) = calls_so number notes
  calls_so number (Ticks moment reaction ∷ notes) = calls_so number notes
  calls_so number (Edits path edit reaction ∷ notes) = calls_so number notes

-- ---- The course of one connection, from its first action to its last

module _ {S : Type 0} (ways : Ways S) where
  never_back : (before : Slot S) (action : Action S) (actions : List (Action S)) → Along ways before (action ∷ actions) Unused → ⊥
  never_back before action [] (between, leads, is) = let P : Slot S → Type 0 = λ s. Leads ways before action s in no_unused ways before action (subst P (sym is) leads)
  never_back before action (next ∷ actions) (between, leads, later) = never_back between next actions later

  -- The bytes of a course.
  pub record Covers (course : List (Action S)) : Type 0 where
    pub unread : List ℕ
    pub is_read : given (flat_map calls_of course) ≡ flat_map handed_of course ++ unread
    pub unsent : List ℕ
    pub is_written : taken (flat_map calls_of course) ++ unsent ≡ flat_map sends_of course

  no_bytes : (cause : CloseReason) → (given (end_calls cause) ≡ []) × (taken (end_calls cause) ≡ [])
  no_bytes PeerEnded = (refl, refl)
  no_bytes ReadFails = (refl, refl)
  no_bytes WriteFails = (refl, refl)
  no_bytes AnswerCloses = (refl, refl)
  no_bytes GivenUp = (refl, refl)

  -- The last action of a course gives and takes no bytes.
  last_action : (place : Slot S) (last : Action S) → Leads ways place last Over
      → is_yet ways place × (given (calls_of last) ≡ []) × (taken (calls_of last) ≡ []) × (handed_of last ≡ []) × (sends_of last ≡ [])
  last_action (Accepted stream) (TurnsAway closed closing) leads = (tt, refl, refl, refl, refl)
  last_action (Open at) (Ends cause stream closing reaction) leads = (tt, (no_bytes cause).0, (no_bytes cause).1, refl, refl)
  last_action (Open at) (EndsUntold cause stream closing) leads = (tt, (no_bytes cause).0, (no_bytes cause).1, refl, refl)
  last_action (Open at) (Closes stream closing) leads = (tt, refl, refl, refl, refl)
  last_action Unused (Accepts stream) leads = absurd leads
  last_action (Accepted stream) (Opens reaction) leads = absurd leads
  last_action (Open at) (Opens reaction) leads = absurd leads
  last_action place last leads = absurd leads

  covered : (front : List (Action S)) (last : Action S) (place : Slot S) → Along ways Unused front place → Leads ways place last Over → Covers (front ++ last ∷ [])
  covered front last place along leads =
      let none = last_action place last leads in
      let read = course_given ways Unused place front none.0 along in
      let sent = course_sent ways Unused place front none.0 along in
      record {
        unread = ahead_of place;
        is_read =
            ap given (flat_one_more calls_of front last) ∙ given_join (flat_map calls_of front) (calls_of last)
            ∙ ap (λ text. given (flat_map calls_of front) ++ text) none.1 ∙ append-nil (given (flat_map calls_of front)) ∙ read
            ∙ ap (λ text. text ++ ahead_of place)
            (sym (flat_one_more handed_of front last ∙ ap (λ text. flat_map handed_of front ++ text) none.3 ∙ append-nil (flat_map handed_of front)));
        unsent = unsent_of place;
        is_written =
            ap (λ text. text ++ unsent_of place)
            (ap taken (flat_one_more calls_of front last) ∙ taken_join (flat_map calls_of front) (calls_of last)
            ∙ ap (λ text. taken (flat_map calls_of front) ++ text) none.2 ∙ append-nil (taken (flat_map calls_of front)))
            ∙ sym sent
            ∙ sym (flat_one_more sends_of front last ∙ ap (λ text. flat_map sends_of front ++ text) none.4 ∙ append-nil (flat_map sends_of front));
      }

  pub covers : (course : List (Action S)) (place : Slot S) → (place ≡ Unused) ⊎ (place ≡ Over) → Along ways Unused course place → Covers course
  covers [] place closed along = record { unread = []; is_read = refl; unsent = []; is_written = refl }
  covers (action ∷ course) place (inl unused) along =
      let P : Slot S → Type 0 = λ s. Along ways Unused (action ∷ course) s in absurd (never_back Unused action course (subst P unused along))
  covers (action ∷ course) place (inr is_over) along =
      let P : Slot S → Type 0 = λ s. Along ways Unused (action ∷ course) s in
      by (ends_so ways Unused (action ∷ course) (λ same. absurd (cc)) (subst P is_over along))
    where
      by : EndsBy ways Unused (action ∷ course) → Covers (action ∷ course)
      by (front, last, slot, is, front_along, leads) = let Q : List (Action S) → Type 0 = λ c. Covers c in subst Q (sym is) (covered front last slot front_along leads)

same_bytes : {S : Type 0} (by : Action S → List ℕ) (other : Action S → List ℕ) → ((action : Action S) → by action ≡ other action) → (actions : List (Action S))
    → flat_map by actions ≡ flat_map other actions
same_bytes by other same [] = refl
same_bytes by other same (action ∷ actions) = λ i. same action i ++ same_bytes by other same actions i

-- ---- The end of the loop takes no event

module _ {S : Type 0} where
  pub quiet_end : (notes : List (Note S)) → AllByRecursion IsQuiet notes → (events notes ≡ []) × (answers notes ≡ []) × (moments notes ≡ [])
  quiet_end [] all = (refl, refl, refl)
  quiet_end (Reports event ∷ notes) (is, all) = quiet_end notes all
  quiet_end (Shows figures ∷ notes) (is, all) = quiet_end notes all
  quiet_end (Of number (Writes bytes) ∷ notes) (is, all) = quiet_end notes all
  quiet_end (Of number Blocks ∷ notes) (is, all) = quiet_end notes all
  quiet_end (Of number Arms ∷ notes) (is, all) = quiet_end notes all
  quiet_end (Of number (TurnsAway stream closing) ∷ notes) (is, all) = quiet_end notes all
  quiet_end (Of number (Closes stream closing) ∷ notes) (is, all) = quiet_end notes all
  quiet_end (Of number action ∷ notes) (is, all) = absurd is
  quiet_end (note ∷ notes) (is, all) = absurd is

unused_at_start : {S : Type 0} (limits : Limits) (number : ℕ) → ◌≡◌ {A = Slot S} (place_in (none_left limits 0) number) Unused
unused_at_start {S} limits number = by (ltb number 0) (nat_eq number 0) refl
  where
    by : (b d : Bool) → ltb number 0 ≡ b → ◌≡◌ {A = Slot S} (cond b Over (cond d Unused Unused)) Unused
    by true d is = let less : number < 0 = ltb-true number 0 is in absurd (omega arith)
    by false true is = refl
    by false false is = refl

closed_at_end : {S : Type 0} (limits : Limits) (numbers number : ℕ)
    → ◌≡◌ {A = Slot S} (place_in (none_left limits numbers) number) Unused ⊎ ◌≡◌ {A = Slot S} (place_in (none_left limits numbers) number) Over
closed_at_end {S} limits numbers number = by (ltb number numbers) (nat_eq number numbers)
  where
    by : (b d : Bool) → ◌≡◌ {A = Slot S} (cond b Over (cond d Unused Unused)) Unused ⊎ ◌≡◌ {A = Slot S} (cond b Over (cond d Unused Unused)) Over
    by true d = inr refl
    by false true = inl refl
    by false false = inl refl

module _ {S : Type 0} (number : ℕ) where
  handed_same : (action : Action S) → by_action handed_to (λ text reaction. text) handed_pieces number action ≡ handed_of action
  handed_same (Hands bytes moment reaction awaited) = refl
  handed_same (Opens reaction) = refl
  handed_same (Ends cause stream closing reaction) = refl
  handed_same (Accepts stream) = refl
  handed_same (Reads bytes) = refl
  handed_same (Writes bytes) = refl
  handed_same Blocks = refl
  handed_same Arms = refl
  handed_same OpensUntold = refl
  handed_same (EndsUntold cause stream closing) = refl
  handed_same (TurnsAway stream closing) = refl
  handed_same (Closes stream closing) = refl

  sent_same : (action : Action S) → by_action sent_to (λ text reaction. reaction.sends) sent_pieces number action ≡ sends_of action
  sent_same (Hands bytes moment reaction awaited) = refl
  sent_same (Opens reaction) = refl
  sent_same (Ends cause stream closing reaction) = refl
  sent_same (Accepts stream) = refl
  sent_same (Reads bytes) = refl
  sent_same (Writes bytes) = refl
  sent_same Blocks = refl
  sent_same Arms = refl
  sent_same OpensUntold = refl
  sent_same (EndsUntold cause stream closing) = refl
  sent_same (TurnsAway stream closing) = refl
  sent_same (Closes stream closing) = refl

  handed_so : (notes : List (Note S)) → of_all (handed_to number) (events notes) (answers notes) ≡ flat_map handed_of (actions_of number notes)
  handed_so notes =
      bytes_so handed_to (λ text reaction. text) handed_pieces number notes
      ∙ same_bytes (by_action handed_to (λ text reaction. text) handed_pieces number) handed_of handed_same (actions_of number notes)

  sent_so : (notes : List (Note S)) → of_all (sent_to number) (events notes) (answers notes) ≡ flat_map sends_of (actions_of number notes)
  sent_so notes =
      bytes_so sent_to (λ text reaction. reaction.sends) sent_pieces number notes
      ∙ same_bytes (by_action sent_to (λ text reaction. reaction.sends) sent_pieces number) sends_of sent_same (actions_of number notes)

-- ---- The whole loop

module _ {R N C S Context Words : Type 0} (ways : Ways S) (steps : Reacting R) (awaits : R → ℕ → Awaited) (tells : C → ℕ → C → Type 0) (polls : Polling N S)
    (theory : Theory Context Words) (state_of : R → State Context Words) (like : StepsLike steps theory state_of) (limits : Limits) where
  -- One connection.
  served_so : (notes : List (Note S)) (numbers : ℕ) (happenings : List Happening) (results : List (Result Reaction StepFault)) (number : ℕ)
      → Along ways (place_in (none_left limits 0) number) (actions_of number notes) (place_in (none_left limits numbers) number)
      → of_all (handed_to number) happenings results ≡ flat_map handed_of (actions_of number notes)
      → of_all (sent_to number) happenings results ≡ flat_map sends_of (actions_of number notes)
      → IsServed ways number happenings results (poller_calls notes)
  served_so notes numbers happenings results number along handed sent =
      let P : Slot S → Type 0 = λ s. Along ways s (actions_of number notes) (place_in (none_left limits numbers) number) in
      let course = subst P (unused_at_start limits number) along in
      let cover = covers ways (actions_of number notes) (place_in (none_left limits numbers) number) (closed_at_end limits numbers number) course in
      record {
        course = actions_of number notes;
        place = place_in (none_left limits numbers) number;
        along = course;
        is_closed = closed_at_end limits numbers number;
        are_its_calls = calls_so number notes;
        unread = cover.unread;
        is_read = cover.is_read ∙ ap (λ text. text ++ cover.unread) (sym handed);
        unsent = cover.unsent;
        is_written = cover.is_written ∙ sym sent;
      }

  module _ (handler handler_after : R) (poller poller_after : N) (clock clock_after : C) (numbers : ℕ) where
    abbrev start : EventLoop R N C S
    start = record { handler = handler; poller = poller; clock = clock; table = none_left limits 0 }

    abbrev finished : EventLoop R N C S
    finished = record { handler = handler_after; poller = poller_after; clock = clock_after; table = none_left limits numbers }

    -- All events were taken.
    taken_run : (notes : List (Note S)) (result : Result (Unit {0}) StepFault) → IsOverBy result (answers notes) → Goes ways steps awaits tells polls start notes finished
        → IsARunOfAll ways steps tells polls theory state_of handler poller clock result handler_after poller_after clock_after
    taken_run notes result is goes =
        let found = run_of steps theory state_of like handler handler_after (events notes) (answers notes)
        (takes_react steps awaits tells handler handler_after notes goes.went.takes) in
        let M : List ℕ → Type 0 = λ ms. AreTold tells clock ms clock_after in
        record {
          happenings = events notes;
          results = answers notes;
          answered = found.0;
          runs = found.1;
          are_shown = found.2;
          is_over = is;
          told = subst M (times_so notes) goes.went.told;
          calls = poller_calls notes;
          polled = goes.polled;
          each = λ number. served_so notes numbers (events notes) (answers notes) number (goes.courses number) (handed_so number notes) (sent_so number notes);
        }

    -- An event was refused after the front, and then the loop ended.
    module _ (front final : List (Note S)) (middle served : EventLoop R N C S) (happening : Happening) (fault : StepFault)
        (goes : Goes ways steps awaits tells polls start front middle) (refuses : Refuses ways steps awaits tells polls middle happening fault served)
        (finishing : AllByRecursion IsQuiet final) (ends : Goes ways steps awaits tells polls served final finished) where
      quiet_so : (events final ≡ []) × (answers final ≡ []) × (moments final ≡ [])
      quiet_so = quiet_end final finishing

      same_handler : handler_after ≡ served.handler
      same_handler =
          let P : List Happening → Type 0 = λ hs. Reacts steps served.handler hs (answers final) handler_after in
          let Q : List (Result Reaction StepFault) → Type 0 = λ rs. Reacts steps served.handler [] rs handler_after in
          subst Q quiet_so.1 (subst P quiet_so.0 (takes_react steps awaits tells served.handler handler_after final ends.went.takes))

      same_clock : clock_after ≡ served.clock
      same_clock = let P : List ℕ → Type 0 = λ ms. AreTold tells served.clock ms clock_after in subst P quiet_so.2 ends.went.told

      all_react : Reacts steps handler (events front ++ happening ∷ []) (answers front ++ Err fault ∷ []) handler_after
      all_react =
          reacts_join steps handler middle.handler handler_after (events front) (happening ∷ []) (answers front) (Err fault ∷ [])
          (takes_react steps awaits tells handler middle.handler front goes.went.takes) (served.handler, refuses.0, same_handler)

      all_told : AreTold tells clock (flat_map times_of (events front ++ happening ∷ [])) clock_after
      all_told =
          let M : List ℕ → Type 0 = λ ms. AreTold tells clock ms clock_after in
          let K : C → Type 0 = λ k. AreTold tells middle.clock (times_of happening ++ []) k in
          let L : List ℕ → Type 0 = λ ms. AreTold tells middle.clock ms served.clock in
          subst M (ap (λ ms. ms ++ (times_of happening ++ [])) (times_so front) ∙ sym (flat_join times_of (events front) (happening ∷ [])))
          (told_join tells clock middle.clock clock_after (moments front) (times_of happening ++ []) goes.went.told
          (subst K (sym same_clock) (subst L (sym (append-nil (times_of happening))) refuses.1)))

      -- The poller and the table are as before the event.
      same_loop : served ≡ record middle { handler = served.handler; clock = served.clock }
      same_loop = refuses.2

      all_polled : AreCalled polls poller (poller_calls (front ++ final)) poller_after
      all_polled =
          let P : N → Type 0 = λ n. AreCalled polls n (poller_calls final) poller_after in
          let Q : List (PollerCall S) → Type 0 = λ calls. AreCalled polls poller calls poller_after in
          subst Q (sym (flat_join poll_in front final))
          (called_join polls poller middle.poller poller_after (poller_calls front) (poller_calls final) goes.polled
          (subst P (ap (λ (l : EventLoop R N C S). l.poller) same_loop) ends.polled))

      all_courses : (number : ℕ) → Along ways (place_in (none_left limits 0) number) (actions_of number (front ++ final)) (place_in (none_left limits numbers) number)
      all_courses number =
          let P : Slot S → Type 0 = λ s. Along ways s (actions_of number final) (place_in (none_left limits numbers) number) in
          let Q : List (Action S) → Type 0 = λ actions. Along ways (place_in (none_left limits 0) number) actions (place_in (none_left limits numbers) number) in
          subst Q (sym (flat_join (action_in number) front final))
          (along_join ways (place_in (none_left limits 0) number) (place_in middle.table number) (place_in (none_left limits numbers) number) (actions_of number front) (actions_of number final)
          (goes.courses number) (subst P (ap (λ (l : EventLoop R N C S). place_in l.table number) same_loop) (ends.courses number)))

      events_same : events (front ++ final) ≡ events front
      events_same = flat_join event_in front final ∙ ap (λ hs. events front ++ hs) quiet_so.0 ∙ append-nil (events front)

      answers_same : answers (front ++ final) ≡ answers front
      answers_same = flat_join answer_in front final ∙ ap (λ rs. answers front ++ rs) quiet_so.1 ∙ append-nil (answers front)

      refused_run : IsARunOfAll ways steps tells polls theory state_of handler poller clock (Err fault) handler_after poller_after clock_after
      refused_run =
          let found = run_of steps theory state_of like handler handler_after (events front ++ happening ∷ []) (answers front ++ Err fault ∷ []) all_react in
          record {
            happenings = events front ++ happening ∷ [];
            results = answers front ++ Err fault ∷ [];
            answered = found.0;
            runs = found.1;
            are_shown = found.2;
            is_over = inl (answers front, refl, all_taken front);
            told = all_told;
            calls = poller_calls (front ++ final);
            polled = all_polled;
            each = λ number.
                served_so (front ++ final) numbers (events front ++ happening ∷ []) (answers front ++ Err fault ∷ []) number (all_courses number)
                (refused_more handed_to (λ text reaction. text) handed_pieces number front happening fault
                ∙ (λ i. of_all (handed_to number) (sym events_same i) (sym answers_same i)) ∙ handed_so number (front ++ final))
                (refused_more sent_to (λ text reaction. reaction.sends) sent_pieces number front happening fault
                ∙ (λ i. of_all (sent_to number) (sym events_same i) (sym answers_same i)) ∙ sent_so number (front ++ final));
          }

    abbrev Whole : Result (Unit {0}) StepFault → Type 0
    Whole result = IsARunOfAll ways steps tells polls theory state_of handler poller clock result handler_after poller_after clock_after

    -- The rounds, more, and the end.
    joined : (rounds : List (Round S)) (between served : EventLoop R N C S) (more final : List (Note S)) → Rounds ways steps awaits tells polls start rounds between
        → Goes ways steps awaits tells polls between more served → Goes ways steps awaits tells polls served final finished
        → Goes ways steps awaits tells polls start ((flat_map round_notes rounds ++ more) ++ final) finished
    joined rounds between served more final are goes ends =
        goes_join ways steps awaits tells polls start served finished (flat_map round_notes rounds ++ more) final
        (goes_join ways steps awaits tells polls start between served (flat_map round_notes rounds) more (rounds_are_one ways steps awaits tells polls start between rounds are) goes)
        ends

    whole_run : (result : Result (Unit {0}) StepFault) (served : EventLoop R N C S) → ServesAll ways steps awaits tells polls start result served
        → (final : List (Note S)) → AllByRecursion IsQuiet final → Goes ways steps awaits tells polls served final finished → Whole result
    whole_run (Ok done) served (rounds, between, are, inl stops) final finishing ends =
        taken_run ((flat_map round_notes rounds ++ Reports Stop ∷ []) ++ final) (Ok done) (all_taken ((flat_map round_notes rounds ++ Reports Stop ∷ []) ++ final))
        (joined rounds between served (Reports Stop ∷ []) final are stops ends)
    whole_run (Ok done) served (rounds, between, are, inr (counted, same)) final finishing ends =
        let P : EventLoop R N C S → Type 0 = λ l. Goes ways steps awaits tells polls l final finished in
        taken_run (flat_map round_notes rounds ++ final) (Ok done) (all_taken (flat_map round_notes rounds ++ final))
        (goes_join ways steps awaits tells polls start between finished (flat_map round_notes rounds) final
        (rounds_are_one ways steps awaits tells polls start between rounds are) (subst P same ends))
    whole_run (Err fault) served (rounds, between, are, event, notes, middle, goes, inl (is, same, round)) final finishing ends =
        let P : EventLoop R N C S → Type 0 = λ l. Goes ways steps awaits tells polls l final finished in
        taken_run ((flat_map round_notes rounds ++ Reports event ∷ notes) ++ final) (Err fault)
        (inr (is, all_taken ((flat_map round_notes rounds ++ Reports event ∷ notes) ++ final)))
        (joined rounds between middle (Reports event ∷ notes) final are goes (subst P same ends))
    whole_run (Err fault) served (rounds, between, are, event, notes, middle, goes, inr (happening, is, refuses)) final finishing ends =
        refused_run (flat_map round_notes rounds ++ Reports event ∷ notes) final middle served happening fault
        (goes_join ways steps awaits tells polls start between middle (flat_map round_notes rounds) (Reports event ∷ notes)
        (rounds_are_one ways steps awaits tells polls start between rounds are) goes)
        refuses finishing ends

pub an_event_loop_is_a_run : {R N C S Context Words : Type 0} (ways : Ways S) (steps : Reacting R) (awaits : R → ℕ → Awaited) (tells : C → ℕ → C → Type 0) (polls : Polling N S)
    (theory : Theory Context Words) (state_of : R → State Context Words) → AnEventLoopIsARun ways steps tells polls theory state_of awaits
an_event_loop_is_a_run ways steps awaits tells polls theory state_of like limits handler handler_after poller poller_after clock clock_after result (served, numbers, serves, finishes) =
    let quiet =
    finishes_quiet ways steps awaits tells polls served (record { handler = handler_after; poller = poller_after; clock = clock_after; table = none_left limits numbers }) finishes in
    whole_run ways steps awaits tells polls theory state_of like limits handler handler_after poller poller_after clock clock_after numbers result served serves quiet.0 quiet.1 quiet.2
