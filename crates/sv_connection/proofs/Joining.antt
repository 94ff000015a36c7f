-- Joining notes with later notes.
use Rattle.std.proofs.Common.{◌≡◌, ℕ, List, [], ◌∷◌, ◌++◌, Result, length, sym, subst, map, ◌∙◌}
use Rattle.std.proofs.lemmas.List.{map-append}
use Rattle.sv_connection.specs.Connection.{AreTold}
use Rattle.sv_connection.specs.Counting.{Counts}
use Rattle.sv_connection.specs.Course.{Along}
use Rattle.sv_connection.specs.Loops.{Goes}
use Rattle.sv_connection.specs.Notes.{Answers, Does, Edits, NoneWaits, Note, Of, Reports, Shows, TakesAll, TakesOne, Talks, Ticks, Went, action_in, actions_of, answer_in, answer_of, answers, event_in, event_of, events, moment_in, moments, poll_in, poller_calls}
use Rattle.sv_connection.specs.Polling.{AreCalled, PollerCall, Polling}
use Rattle.sv_connection.specs.Slots.{Accepts, Arms, Action, Closes, Ends, EndsUntold, Hands, Opens, OpensUntold, Blocks, Slot, Reads, TurnsAway, Writes}
use Rattle.sv_connection.specs.Known.{most_open, place_in}
use Rattle.sv_connection.specs.Ways.{Ways}
use Rattle.sv_connection.specs.declared.event_loop.EventLoop.{EventLoop}
use Rattle.sv_connection.specs.declared.limits.Limits.{Limits}
use Rattle.sv_run.specs.Events.{Happening}
use Rattle.sv_run.specs.Reacting.{Reacting, Reacts}
use Rattle.sv_run.specs.declared.happening.Reaction.{Reaction}
use Rattle.sv_run.specs.declared.step_fault.StepFault.{StepFault}
use Rattle.sv_connection.proofs.AloneLemmas.{flat_join}
use Rattle.sv_wire.specs.declared.inbox.Awaited.{Awaited}

pub told_join : {C : Type 0} (tells : C → ℕ → C → Type 0) (before between after : C) (told more : List ℕ)
    → AreTold tells before told between → AreTold tells between more after → AreTold tells before (told ++ more) after
told_join {C} tells before between after [] more is later = let P : C → Type 0 = λ c. AreTold tells c more after in subst P is later
told_join tells before between after (moment ∷ told) more (middle, here, front) later =
    (middle, here, told_join tells middle between after told more front later)

pub called_join : {N S : Type 0} (polls : Polling N S) (before between after : N) (calls more : List (PollerCall S))
    → AreCalled polls before calls between → AreCalled polls between more after → AreCalled polls before (calls ++ more) after
called_join {N} polls before between after [] more is later = let P : N → Type 0 = λ n. AreCalled polls n more after in subst P is later
called_join polls before between after (call ∷ calls) more (middle, here, front) later =
    (middle, here, called_join polls middle between after calls more front later)

pub along_join : {S : Type 0} (ways : Ways S) (before between after : Slot S) (actions more : List (Action S))
    → Along ways before actions between → Along ways between more after → Along ways before (actions ++ more) after
along_join {S} ways before between after [] more is later = let P : Slot S → Type 0 = λ p. Along ways p more after in subst P is later
along_join ways before between after (action ∷ actions) more (middle, leads, front) later =
    (middle, leads, along_join ways middle between after actions more front later)

pub counts_join : {S : Type 0} (most before between after : ℕ) (notes more : List (Note S)) → Counts most before notes between → Counts most between more after
    → Counts most before (notes ++ more) after
counts_join most before between after [] more is later = let P : ℕ → Type 0 = λ n. Counts most n more after in subst P is later
counts_join most before between after (note ∷ notes) more (middle, here, front) later =
    (middle, here, counts_join most middle between after notes more front later)

-- What takes no event is followed by the same.
quiet : {R : Type 0} (steps : Reacting R) (before between after : R) (happenings : List Happening) (results : List (Result Reaction StepFault)) → between ≡ before
    → Reacts steps between happenings results after → Reacts steps before happenings results after
quiet {R} steps before between after happenings results same later = let P : R → Type 0 = λ r. Reacts steps r happenings results after in subst P same later

module _ {R C S : Type 0} (steps : Reacting R) (awaits : R → ℕ → Awaited) (tells : C → ℕ → C → Type 0) where
  takes_join : (before between after : R) (notes more : List (Note S))
      → TakesAll steps awaits tells before notes between → TakesAll steps awaits tells between more after → TakesAll steps awaits tells before (notes ++ more) after
  takes_join before between after [] more is later = let P : R → Type 0 = λ r. TakesAll steps awaits tells r more after in subst P is later
  takes_join before between after (note ∷ notes) more (middle, here, front) later =
      (middle, here, takes_join middle between after notes more front later)

  pub went_join : (before between after : R) (clock clock_between clock_after : C) (notes more : List (Note S))
      → Went steps awaits tells before clock notes between clock_between → Went steps awaits tells between clock_between more after clock_after
      → Went steps awaits tells before clock (notes ++ more) after clock_after
  went_join before between after clock clock_between clock_after notes more first second =
      let M : List ℕ → Type 0 = λ ms. AreTold tells clock ms clock_after in
      record {
        takes = takes_join before between after notes more first.takes second.takes;
        told = subst M (sym (flat_join moment_in notes more)) (told_join tells clock clock_between clock_after (moments notes) (moments more) first.told second.told);
      }

  -- An action has the effect of its event.
  action_reacts : (number : ℕ) (action : Action S) (before between after : R) (happenings : List Happening) (results : List (Result Reaction StepFault))
      → Does steps awaits tells number before action between → Reacts steps between happenings results after
      → Reacts steps before (event_of number action ++ happenings) (answer_of action ++ results) after
  action_reacts number (Opens reaction) before between after happenings results step later = (between, step, later)
  action_reacts number (Hands bytes moment reaction awaited) before between after happenings results (step, is) later = (between, step, later)
  action_reacts number (Ends cause stream closing reaction) before between after happenings results step later = (between, step, later)
  action_reacts number (Accepts stream) before between after happenings results same later = quiet steps before between after happenings results same later
  action_reacts number (Reads bytes) before between after happenings results same later = quiet steps before between after happenings results same later
  action_reacts number (Writes bytes) before between after happenings results same later = quiet steps before between after happenings results same later
  action_reacts number Blocks before between after happenings results same later = quiet steps before between after happenings results same later
  action_reacts number Arms before between after happenings results same later = quiet steps before between after happenings results same later
  action_reacts number OpensUntold before between after happenings results same later = quiet steps before between after happenings results same later
  action_reacts number (EndsUntold cause stream closing) before between after happenings results same later = quiet steps before between after happenings results same later
  action_reacts number (TurnsAway stream closing) before between after happenings results same later = quiet steps before between after happenings results same later
  action_reacts number (Closes stream closing) before between after happenings results same later = quiet steps before between after happenings results same later

  note_reacts : (note : Note S) (before between after : R) (happenings : List Happening) (results : List (Result Reaction StepFault))
      → TakesOne steps awaits tells before note between → Reacts steps between happenings results after
      → Reacts steps before (event_in note ++ happenings) (answer_in note ++ results) after
  note_reacts (Of number action) before between after happenings results does later = action_reacts number action before between after happenings results does later
  note_reacts (Ticks moment reaction) before between after happenings results step later = (between, step, later)
  note_reacts (Edits path edit reaction) before between after happenings results step later = (between, step, later)
  note_reacts (Reports event) before between after happenings results same later = quiet steps before between after happenings results same later
  note_reacts (NoneWaits number) before between after happenings results same later = quiet steps before between after happenings results same later
  note_reacts (Answers figures asked) before between after happenings results same later = quiet steps before between after happenings results same later
  note_reacts (Shows figures) before between after happenings results same later = quiet steps before between after happenings results same later

  pub takes_react : (before after : R) (notes : List (Note S)) → TakesAll steps awaits tells before notes after → Reacts steps before (events notes) (answers notes) after
  takes_react before after [] same = same
  takes_react before after (note ∷ notes) (between, takes, later) =
      note_reacts note before between after (events notes) (answers notes) takes (takes_react between after notes later)

  module _ (ways : Ways S) where
    pub talks_join : (number : ℕ) (before between after : R) (clock clock_between clock_after : C) (place place_between place_after : Slot S) (actions more : List (Action S))
        → Talks steps awaits tells ways number before clock place actions between clock_between place_between
        → Talks steps awaits tells ways number between clock_between place_between more after clock_after place_after
        → Talks steps awaits tells ways number before clock place (actions ++ more) after clock_after place_after
    talks_join number before between after clock clock_between clock_after place place_between place_after actions more first second =
        let N : List (Note S) → Type 0 = λ notes. Went steps awaits tells before clock notes after clock_after in
        record {
          went = subst N (sym (map-append (Of number) actions more))
              (went_join before between after clock clock_between clock_after (map (Of number) actions) (map (Of number) more) first.went second.went);
          along = along_join ways place place_between place_after actions more first.along second.along;
        }

module _ {R N C S : Type 0} (ways : Ways S) (steps : Reacting R) (awaits : R → ℕ → Awaited) (tells : C → ℕ → C → Type 0) (polls : Polling N S) where
  pub goes_join : (before between after : EventLoop R N C S) (notes more : List (Note S))
      → Goes ways steps awaits tells polls before notes between → Goes ways steps awaits tells polls between more after
      → Goes ways steps awaits tells polls before (notes ++ more) after
  goes_join before between after notes more first second =
      let P : List (PollerCall S) → Type 0 = λ calls. AreCalled polls before.poller calls after.poller in
      record {
        went = went_join steps awaits tells before.handler between.handler after.handler before.clock between.clock after.clock notes more first.went second.went;
        polled = subst P (sym (flat_join poll_in notes more))
            (called_join polls before.poller between.poller after.poller (poller_calls notes) (poller_calls more) first.polled second.polled);
        courses = λ number.
            let Q : List (Action S) → Type 0 = λ actions. Along ways (place_in before.table number) actions (place_in after.table number) in
            subst Q (sym (flat_join (action_in number) notes more))
            (along_join ways (place_in before.table number) (place_in between.table number) (place_in after.table number)
            (actions_of number notes) (actions_of number more) (first.courses number) (second.courses number));
        limits = second.limits ∙ first.limits;
        counts =
            let C : Limits → Type 0 = λ limits. Counts (most_open limits) (length between.table.entries) more (length after.table.entries) in
            counts_join (most_open before.table.limits) (length before.table.entries) (length between.table.entries) (length after.table.entries) notes more first.counts
            (subst C first.limits second.counts);
      }
