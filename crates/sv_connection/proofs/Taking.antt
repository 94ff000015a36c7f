-- Handling an event of the poller.
use Rattle.std.proofs.Common.{◌≡◌, ℕ, inl, inr, List, [], ◌∷◌, ◌++◌, Option, None, Some, Result, Ok, Err, length, refl, sym, subst, append-nil}
use Rattle.std.specs.List.{AllByRecursion}
use Rattle.std.specs.Prelude.{IsErrAnd}
use Rattle.sv_connection.specs.Asking.{TakesAsked}
use Rattle.sv_connection.specs.Figures.{figures_of}
use Rattle.sv_connection.specs.Holding.{IsSettled, StaysWithin}
use Rattle.sv_connection.specs.Known.{AreAtRest, Known, place_in}
use Rattle.sv_connection.specs.Loops.{Goes, IsTried}
use Rattle.sv_connection.specs.Notes.{Answers, Edits, Note, Ticks}
use Rattle.sv_connection.specs.Polling.{Answer, Polling}
use Rattle.sv_connection.specs.Rounds.{AsksOnce, IsOfConnections, IsRefusedIn, Settles, TakesEvent, TicksOnce}
use Rattle.sv_connection.specs.Ways.{Ways}
use Rattle.sv_connection.specs.declared.event_loop.EventLoop.{EventLoop}
use Rattle.sv_connection.specs.declared.poller.PollEvent.{PollEvent}
use Rattle.sv_connection.specs.declared.poller.PollEvent.TheVariants.{Asked, Crowded, Incoming, Ready, Second, Stop}
use Rattle.sv_policy.specs.declared.edit.Edit.{Edit}
use Rattle.sv_run.specs.Events.{Edited, Ended, Happening, Lost, Opened, Piece, Tick}
use Rattle.sv_run.specs.Reacting.{Reacting}
use Rattle.sv_run.specs.declared.happening.Reaction.{Reaction}
use Rattle.sv_run.specs.declared.step_fault.StepFault.{StepFault}
use Rattle.sv_connection.proofs.Joining.{goes_join}
use Rattle.sv_connection.proofs.Looping.{goes_none, refused_as}
use Rattle.sv_wire.specs.declared.inbox.Awaited.{Awaited}

-- An event for which only connections are served.
abbrev pub IsPlain : PollEvent → Type 0
IsPlain (Ready number) = Unit {0}
IsPlain Incoming = Unit {0}
IsPlain Crowded = Unit {0}
IsPlain Second = ⊥
IsPlain Asked = ⊥
IsPlain Stop = ⊥

module _ {R N C S : Type 0} (ways : Ways S) (steps : Reacting R) (awaits : R → ℕ → Awaited) (tells : C → ℕ → C → Type 0) (polls : Polling N S) where
  all_so : (notes last : List (Note S)) → AllByRecursion IsOfConnections notes → last ≡ [] → AllByRecursion IsOfConnections (notes ++ last)
  all_so notes last of none =
      let P : List (Note S) → Type 0 = λ l. AllByRecursion IsOfConnections (notes ++ l) in
      let Q : List (Note S) → Type 0 = λ l. AllByRecursion IsOfConnections l in
      subst P (sym none) (subst Q (sym (append-nil notes)) of)

  both : (before after : Known S) → (AreAtRest (place_in before) → AreAtRest (place_in after)) → StaysWithin before after → IsSettled before → IsSettled after
  both before after rests within settled = (rests settled.0, within settled.1)

  taken_of : (event : PollEvent) → IsPlain event → (before after : EventLoop R N C S) (result : Result (Unit {0}) StepFault)
      → Settles ways steps awaits tells polls before result after → TakesEvent ways steps awaits tells polls event before result after
  taken_of (Ready number) plain before after (Ok done) ((notes, of, goes, rests), within) = (notes, of, goes, both before.table after.table rests within)
  taken_of (Ready number) plain before after (Err fault) (notes, last, middle, of, goes, inl (none, is, same)) =
      (notes ++ last, middle, goes, inl (is, same, all_so notes last of none))
  taken_of (Ready number) plain before after (Err fault) (notes, last, middle, of, goes, inr (happening, tried, refuses)) =
      (notes ++ last, middle, goes, inr (happening, (notes, last, refl, of, tried), refuses))
  taken_of Incoming plain before after (Ok done) ((notes, of, goes, rests), within) = (notes, of, goes, both before.table after.table rests within)
  taken_of Incoming plain before after (Err fault) (notes, last, middle, of, goes, inl (none, is, same)) =
      (notes ++ last, middle, goes, inl (is, same, all_so notes last of none))
  taken_of Incoming plain before after (Err fault) (notes, last, middle, of, goes, inr (happening, tried, refuses)) =
      (notes ++ last, middle, goes, inr (happening, (notes, last, refl, of, tried), refuses))
  taken_of Crowded plain before after (Ok done) ((notes, of, goes, rests), within) = (notes, of, goes, both before.table after.table rests within)
  taken_of Crowded plain before after (Err fault) (notes, last, middle, of, goes, inl (none, is, same)) =
      (notes ++ last, middle, goes, inl (is, same, all_so notes last of none))
  taken_of Crowded plain before after (Err fault) (notes, last, middle, of, goes, inr (happening, tried, refuses)) =
      (notes ++ last, middle, goes, inr (happening, (notes, last, refl, of, tried), refuses))
  taken_of Second plain before after result moves = absurd plain
  taken_of Asked plain before after result moves = absurd plain
  taken_of Stop plain before after result moves = absurd plain

  pub taken_as : (told event : PollEvent) → told ≡ event → IsPlain event → (before after : EventLoop R N C S) (result : Result (Unit {0}) StepFault)
      → Settles ways steps awaits tells polls before result after → TakesEvent ways steps awaits tells polls told before result after
  taken_as told event is plain before after result moves =
      let P : PollEvent → Type 0 = λ e. TakesEvent ways steps awaits tells polls e before result after in
      subst P (sym is) (taken_of event plain before after result moves)

  -- A query: it is answered, and brings only the edit that it asked for.
  asked_goes : (before : EventLoop R N C S) (handler : R) (poller : N) (path : List ℕ) (edit : Edit) (reaction : Reaction)
      → polls before.poller (Answer (figures_of before.table) (Some (path, edit))) poller → steps before.handler (Edited path edit) (Ok reaction) handler
      → Goes ways steps awaits tells polls before (Answers (figures_of before.table) (Some (path, edit)) ∷ Edits path edit reaction ∷ [])
      (record before { handler = handler; poller = poller })
  asked_goes before handler poller path edit reaction call step = record {
    went = record { takes = (before.handler, refl, (handler, step, refl)); told = refl };
    polled = (poller, call, refl);
    courses = λ number. refl;
    limits = refl;
    counts = (length before.table.entries, refl, (length before.table.entries, refl, refl));
  }

  answered_goes : (before : EventLoop R N C S) (handler : R) (poller : N) (asked : Option (List ℕ × Edit)) → handler ≡ before.handler
      → polls before.poller (Answer (figures_of before.table) asked) poller
      → Goes ways steps awaits tells polls before (Answers (figures_of before.table) asked ∷ []) (record before { handler = handler; poller = poller })
  answered_goes before handler poller asked same call = record {
    went = record { takes = (before.handler, refl, same); told = refl };
    polled = (poller, call, refl);
    courses = λ number. refl;
    limits = refl;
    counts = (length before.table.entries, refl, refl);
  }

  asked_now : (before : EventLoop R N C S) (handler : R) (poller : N) (result : Result (Unit {0}) StepFault) (asked : Option (List ℕ × Edit))
      → polls before.poller (Answer (figures_of before.table) asked) poller → TakesAsked steps asked before.handler result handler
      → TakesEvent ways steps awaits tells polls Asked before result (record before { handler = handler; poller = poller })
  asked_now before handler poller (Ok done) None call same =
      (Answers (figures_of before.table) None ∷ [], inl refl, answered_goes before handler poller None same call, λ rest. rest)
  asked_now before handler poller (Err fault) None call never = absurd never
  asked_now before handler poller (Ok done) (Some (path, edit)) call (reaction, step) = (
    Answers (figures_of before.table) (Some (path, edit)) ∷ Edits path edit reaction ∷ [],
    inr (path, edit, reaction, refl),
    asked_goes before handler poller path edit reaction call step,
    λ rest. rest,
  )
  asked_now before handler poller (Err fault) (Some (path, edit)) call step = (
    Answers (figures_of before.table) (Some (path, edit)) ∷ [],
    record before { poller = poller },
    answered_goes before before.handler poller (Some (path, edit)) refl call,
    inr (Edited path edit, refl, (step, refl, refl)),
  )

  pub asked_as : (told : PollEvent) → told ≡ Asked → (before after : EventLoop R N C S) (result : Result (Unit {0}) StepFault)
      → AsksOnce steps polls before result after → TakesEvent ways steps awaits tells polls told before result after
  asked_as told is before after result ((asked, call, takes), same) =
      let P : PollEvent → Type 0 = λ e. TakesEvent ways steps awaits tells polls e before result after in
      let Q : EventLoop R N C S → Type 0 = λ l. TakesEvent ways steps awaits tells polls Asked before result l in
      subst P (sym is) (subst Q (sym same) (asked_now before after.handler after.poller result asked call takes))

  -- A second: a tick, and then notes of connections.
  tick_goes : (before : EventLoop R N C S) (handler : R) (clock : C) (moment : ℕ) (reaction : Reaction) → tells before.clock moment clock
      → steps before.handler (Tick moment) (Ok reaction) handler
      → Goes ways steps awaits tells polls before (Ticks moment reaction ∷ []) (record before { handler = handler; clock = clock })
  tick_goes before handler clock moment reaction told step =
      record {
        went = record { takes = (handler, step, refl); told = (clock, told, refl) };
        polled = refl;
        courses = λ number. refl;
        limits = refl;
        counts = (length before.table.entries, refl, refl);
      }

  tried_in_second : (before now : EventLoop R N C S) (moment : ℕ) (reaction : Reaction) (more last : List (Note S)) → AllByRecursion IsOfConnections more
      → (happening : Happening) → IsTried now last happening → IsRefusedIn Second before.table (Ticks moment reaction ∷ (more ++ last)) now happening
  tried_in_second before now moment reaction more last of (Opened number) tried = (Ticks moment reaction ∷ more, last, refl, (moment, reaction, more, refl, of), tried)
  tried_in_second before now moment reaction more last of (Piece number bytes time) tried = (Ticks moment reaction ∷ more, last, refl, (moment, reaction, more, refl, of), tried)
  tried_in_second before now moment reaction more last of (Ended number) tried = (Ticks moment reaction ∷ more, last, refl, (moment, reaction, more, refl, of), tried)
  tried_in_second before now moment reaction more last of (Lost number) tried = (Ticks moment reaction ∷ more, last, refl, (moment, reaction, more, refl, of), tried)
  tried_in_second before now moment reaction more last of (Tick time) tried = absurd tried
  tried_in_second before now moment reaction more last of (Edited path edit) tried = absurd tried

  second_now : (before after : EventLoop R N C S) (handler : R) (clock : C) (moment : ℕ) (reaction : Reaction) → tells before.clock moment clock
      → steps before.handler (Tick moment) (Ok reaction) handler → (result : Result (Unit {0}) StepFault)
      → Settles ways steps awaits tells polls (record before { handler = handler; clock = clock }) result after
      → TakesEvent ways steps awaits tells polls Second before result after
  second_now before after handler clock moment reaction told step (Ok done) ((notes, of, goes, rests), within) = (
    Ticks moment reaction ∷ notes,
    (moment, reaction, notes, refl, of),
    goes_join ways steps awaits tells polls before (record before { handler = handler; clock = clock }) after (Ticks moment reaction ∷ []) notes
        (tick_goes before handler clock moment reaction told step) goes,
    both before.table after.table rests within,
  )
  second_now before after handler clock moment reaction told step (Err fault) (notes, last, middle, of, goes, inl (none, is, same)) = (
    Ticks moment reaction ∷ (notes ++ last),
    middle,
    goes_join ways steps awaits tells polls before (record before { handler = handler; clock = clock }) middle (Ticks moment reaction ∷ []) (notes ++ last)
        (tick_goes before handler clock moment reaction told step) goes,
    inl (is, same, (moment, reaction, notes ++ last, refl, all_so notes last of none)),
  )
  second_now before after handler clock moment reaction told step (Err fault) (notes, last, middle, of, goes, inr (happening, tried, refuses)) = (
    Ticks moment reaction ∷ (notes ++ last),
    middle,
    goes_join ways steps awaits tells polls before (record before { handler = handler; clock = clock }) middle (Ticks moment reaction ∷ []) (notes ++ last)
        (tick_goes before handler clock moment reaction told step) goes,
    inr (happening, tried_in_second before middle moment reaction notes last of happening tried, refuses),
  )

  pub second_passed : (before ticked after : EventLoop R N C S) (done : Unit {0}) → TicksOnce steps tells before (Ok done) ticked → (result : Result (Unit {0}) StepFault)
      → Settles ways steps awaits tells polls ticked result after → TakesEvent ways steps awaits tells polls Second before result after
  second_passed before ticked after done (moment, reaction, told, step, same) result moves =
      let P : EventLoop R N C S → Type 0 = λ l. Settles ways steps awaits tells polls l result after in
      second_now before after ticked.handler ticked.clock moment reaction told step result (subst P same moves)

  pub tick_refused : (before after : EventLoop R N C S) (fault : StepFault) → TicksOnce steps tells before (Err fault) after
      → (result : Result (Unit {0}) StepFault) → IsErrAnd result (λ e. e ≡ fault) → TakesEvent ways steps awaits tells polls Second before result after
  tick_refused before after fault (moment, told, step, same) result refused =
      let P : EventLoop R N C S → Type 0 = λ l. TakesEvent ways steps awaits tells polls Second before (Err fault) l in
      let Q : Result (Unit {0}) StepFault → Type 0 = λ r. TakesEvent ways steps awaits tells polls Second before r after in
      subst Q (sym (refused_as fault result refused))
      (subst P (sym same) ([], before, goes_none ways steps awaits tells polls before, inr (Tick moment, refl, (step, (after.clock, told, refl), refl))))
