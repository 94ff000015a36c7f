-- A connection that is driven, opened, given up or closed, among the others.
use Rattle.std.proofs.Common.{◌≡◌, ◌≢◌, IsSome, is_some, length, ℕ, ◌+◌, ◌<◌, Bool, true, false, inl, inr, List, [], ◌∷◌, ◌++◌, Option, None, Some, Result, Ok, Err, refl, sym, ap, ◌∙◌, subst, flat_map, map, arith}
use Rattle.std.proofs.lemmas.List.{map-append}
use Rattle.std.specs.List.{AllByRecursion}
use Rattle.std.specs.Map.{lookup, set_value}
use Rattle.std.specs.Prelude.{IsErrAnd}
use Rattle.std.proofs.Common.{nat_eq}
use Rattle.sv_connection.specs.Closing.{closing_of}
use Rattle.sv_connection.specs.Connection.{AreTold}
use Rattle.sv_connection.specs.Counting.{Counts, CountsAction}
use Rattle.sv_connection.specs.Course.{Along}
use Rattle.sv_connection.specs.Ending.{ClosesOne, EndsOne, Leaves, TurnsOneAway}
use Rattle.sv_connection.specs.Holding.{StaysWithin}
use Rattle.sv_connection.specs.Known.{AreBelow, ForgetsOne, Known, OpensNext, OthersStay, StaysOpen, found, most_open, place_in}
use Rattle.sv_connection.specs.Loops.{Goes, IsTried, times_of}
use Rattle.sv_connection.specs.Notes.{Does, NoneWaits, Note, Of, Talks, moment_of, over_by, poll_of}
use Rattle.sv_connection.specs.Polling.{Accept, AreCalled, Close, PollerCall, Polling}
use Rattle.sv_connection.specs.Rounds.{IsOfConnections, Moves, Settles}
use Rattle.sv_connection.specs.Slots.{Accepted, Accepts, Action, Ends, EndsUntold, Leads, Open, Opens, OpensUntold, Over, Slot, TurnsAway, Unused, fresh}
use Rattle.sv_connection.specs.States.{ConnectionState}
use Rattle.sv_connection.specs.Steps.{Drives, DrivesOne, FailsAt, StopsFor}
use Rattle.sv_connection.specs.Turns.{over_event}
use Rattle.sv_connection.specs.Ways.{Ways}
use Rattle.sv_connection.specs.declared.close_reason.CloseReason.{CloseReason}
use Rattle.sv_connection.specs.declared.close_reason.CloseReason.TheVariants.{AnswerCloses, GivenUp, PeerEnded, ReadFails, WriteFails}
use Rattle.sv_connection.specs.declared.close_reason.Closing.{Closing}
use Rattle.sv_connection.specs.declared.close_reason.Closing.TheVariants.{AtOnce}
use Rattle.sv_connection.specs.declared.event_loop.EventLoop.{EventLoop}
use Rattle.sv_connection.specs.declared.limits.Limits.{Limits}
use Rattle.sv_connection.specs.declared.over.Over as over
use Rattle.sv_connection.specs.declared.over.Over.TheVariants.{Closed, Lost}
use Rattle.sv_run.specs.Events.{Happening, Opened, Piece}
use Rattle.sv_run.specs.Reacting.{Reacting}
use Rattle.sv_run.specs.declared.happening.Reaction.{Reaction}
use Rattle.sv_run.specs.declared.step_fault.StepFault.{StepFault}
use Rattle.sv_run.specs.declared.step_fault.StepFault.TheVariants.{NoMemory}
use Rattle.sv_connection.proofs.AloneLemmas.{all_join, flat_one_more}
use Rattle.sv_connection.proofs.Joining.{talks_join}
use Rattle.sv_connection.proofs.Looping.{goes_by, goes_none, last_counts, moves_none, none_last, open_counts, open_notes, open_silent, refused_as, settles_same}
use Rattle.sv_connection.proofs.Placing.{accepted_next, all_rest, both_stay, place_next, place_open, place_over, places_stay, set_found, stays_open, used_next}
use Rattle.sv_wire.specs.declared.inbox.Awaited.{Awaited}

some_same : {A : Type 0} (x y : A) → ◌≡◌ {A = Option A} (Some x) (Some y) → x ≡ y
some_same x y same = cc

module _ {R C S : Type 0} (ways : Ways S) (steps : Reacting R) (awaits : R → ℕ → Awaited) (tells : C → ℕ → C → Type 0) (number : ℕ) (before : R) (clock : C) where
  module _ (limits : Limits) (next : ℕ) (accepted : Option S) (entries entries_after : List (ℕ × ConnectionState S)) (known : Known S)
      (view : ◌≡◌ {A = Known S} (record { limits = limits; next = next; accepted = accepted; entries = entries }) known) where
    -- An open connection was driven.
    pub drove : (at at_after : ConnectionState S) → entries_after ≡ set_value (nat_eq number) entries at_after → Some at ≡ lookup (nat_eq number) entries
        → AreBelow next entries
        → (result : Result (Option CloseReason) StepFault) (after : R) (clock_after : C) → Drives ways steps awaits tells number before clock at result after clock_after at_after
        → DrivesOne ways steps awaits tells number before clock known result after clock_after (record { limits = limits; next = next; accepted = accepted; entries = entries_after })
    drove at at_after set is below result after clock_after drives =
        let P : Known S → Type 0 = λ k. DrivesOne ways steps awaits tells number before clock k result after clock_after
        (record { limits = limits; next = next; accepted = accepted; entries = entries_after }) in
        subst P view (inr (
          at,
          at_after,
          below number (subst IsSome is refl),
          sym is,
          set_found limits number next accepted entries entries_after at at_after set is,
          stays_open limits number next accepted entries entries_after at at_after set is,
          drives,
        ))

    -- No open connection has this number.
    pub missed : entries_after ≡ entries → DrivesOne ways steps awaits tells number before clock known (Ok None) before clock
        (record { limits = limits; next = next; accepted = accepted; entries = entries_after })
    missed same =
        inl (refl, refl, refl, (λ i. record { limits = limits; next = next; accepted = accepted; entries = same i }) ∙ view)

-- A result with another value.
abbrev pub as_result : {A B : Type 0} → B → Result A StepFault → Result B StepFault
as_result done (Ok other) = Ok done
as_result done (Err fault) = Err fault

-- A connection closes as it did before its last call.
closes_alike : {S : Type 0} (at : ConnectionState S) (stream : S) (cause : CloseReason) → closing_of (record at { stream = stream }) cause ≡ closing_of at cause
closes_alike at stream PeerEnded = refl
closes_alike at stream AnswerCloses = refl
closes_alike at stream ReadFails = refl
closes_alike at stream WriteFails = refl
closes_alike at stream GivenUp = refl

-- No time is given for the event of an end.
end_has_no_time : (number : ℕ) (ended : over.Over) → times_of (over_event number ended) ≡ []
end_has_no_time number Closed = refl
end_has_no_time number Lost = refl

module _ {R N C S : Type 0} (ways : Ways S) (steps : Reacting R) (awaits : R → ℕ → Awaited) (tells : C → ℕ → C → Type 0) (polls : Polling N S) where
  end_tried : (now : EventLoop R N C S) (number : ℕ) (ended : over.Over) (cause : CloseReason) (stream : S) (closing : Closing) → over_by cause ≡ ended
      → IsTried now (Of number (EndsUntold cause stream closing) ∷ []) (over_event number ended)
  end_tried now number Closed cause stream closing is = (cause, stream, closing, is, refl)
  end_tried now number Lost cause stream closing is = (cause, stream, closing, is, refl)

  -- A connection was driven, and goes on.
  module _ (number : ℕ) (before : EventLoop R N C S) (at b : ConnectionState S) (handler : R) (clock : C) (known : Known S)
      (below : number < before.table.next) (was : found before.table number ≡ Some at) (now : found known number ≡ Some b) (stay : StaysOpen number before.table known) where
    below_after : number < known.next
    below_after = let P : ℕ → Type 0 = λ n. number < n in subst P (sym stay.0.next) below

    abbrev pub driven_loop : EventLoop R N C S
    driven_loop = record { handler = handler; poller = before.poller; clock = clock; table = known }

    driven_goes : (actions : List (Action S)) → Talks steps awaits tells ways number before.handler before.clock (Open at) actions handler clock (Open b)
        → Goes ways steps awaits tells polls before (map (Of number) actions) driven_loop
    driven_goes actions talks =
        let F : Slot S → Type 0 = λ p. Along ways p actions (place_in known number) in
        let T : Slot S → Type 0 = λ p. Along ways (Open at) actions p in
        let A : List (PollerCall S) → Type 0 = λ calls. AreCalled polls before.poller calls before.poller in
        goes_by ways steps awaits tells polls number before driven_loop actions talks.went
        (subst F (sym (place_open before.table number at below was)) (subst T (sym (place_open known number b below_after now)) talks.along))
        (subst A (sym (open_silent ways number actions at b talks.along)) refl)
        (places_stay number before.table known stay.0) stay.0.limits
        (let N : ℕ → Type 0 = λ n. Counts (most_open before.table.limits) (length before.table.entries) (map (Of number) actions) n in
        subst N (sym stay.1) (open_counts ways number (most_open before.table.limits) (length before.table.entries) actions at b talks.along))

    pub drive_moves : {A : Type 0} (done : A) (result : Option CloseReason) → result ≡ None → Drives ways steps awaits tells number before.handler before.clock at (Ok result) handler clock b
        → Moves ways steps awaits tells polls before (Ok done) driven_loop
    drive_moves done (Some cause) is drives = absurd (cc)
    drive_moves done None is (actions, talks, turn, rests) = (
      map (Of number) actions,
      open_notes ways number actions at b talks.along,
      driven_goes actions talks,
      all_rest number (place_in before.table) (place_in known) (places_stay number before.table known stay.0) rests_here,
    )
      where
        state_of : Slot S → ConnectionState S
        state_of Unused = b
        state_of (Accepted stream) = b
        state_of (Open other) = other
        state_of Over = b

        rests_here : (other : ConnectionState S) → place_in known number ≡ Open other → other.rests ≡ true
        rests_here other same = sym (ap (λ p. (state_of p).rests) (sym (place_open known number b below_after now) ∙ same)) ∙ rests

    pub drive_fails : (A : Type 0) (fault : StepFault) (handler_after : R) (clock_after : C) (actions : List (Action S))
        → Talks steps awaits tells ways number before.handler before.clock (Open at) actions handler clock (Open b)
        → FailsAt steps tells number b fault handler clock handler_after clock_after
        → Moves ways steps awaits tells polls {A = A} before (Err fault) (record { handler = handler_after; poller = before.poller; clock = clock_after; table = known })
    drive_fails A fault handler_after clock_after actions talks (inl (is, same, same_clock)) = (
      map (Of number) actions,
      [],
      driven_loop,
      open_notes ways number actions at b talks.along,
      none_last ways steps awaits tells polls before driven_loop (map (Of number) actions) (driven_goes actions talks),
      inl (refl, is, λ i. record { handler = same i; poller = before.poller; clock = same_clock i; table = known }),
    )
    drive_fails A fault handler_after clock_after actions talks (inr (bytes, moment, next, told, step)) = (
      map (Of number) actions,
      [],
      driven_loop,
      open_notes ways number actions at b talks.along,
      none_last ways steps awaits tells polls before driven_loop (map (Of number) actions) (driven_goes actions talks),
      inr (Piece number bytes moment, (refl, (b, place_open known number b below_after now, next)), (step, (clock_after, told, refl), refl)),
    )

  -- The driven connection of a number, whatever the result but an end.
  pub drove_on : {A : Type 0} (done : A) (number : ℕ) (before : EventLoop R N C S) (handler : R) (clock : C) (known : Known S)
      → DrivesOne ways steps awaits tells number before.handler before.clock before.table (Ok None) handler clock known
      → Moves ways steps awaits tells polls before (Ok done) (record { handler = handler; poller = before.poller; clock = clock; table = known })
  drove_on done number before handler clock known (inl (is, same, same_clock, same_table)) =
      let P : EventLoop R N C S → Type 0 = λ l. Moves ways steps awaits tells polls before (Ok done) l in
      subst P (λ i. record { handler = sym same i; poller = before.poller; clock = sym same_clock i; table = sym same_table i }) (moves_none ways steps awaits tells polls done before)
  drove_on done number before handler clock known (inr (at, b, below, was, now, stay, drives)) =
      drive_moves number before at b handler clock known below was now stay done None refl drives

  pub drive_failed : (A : Type 0) (fault : StepFault) (number : ℕ) (before : EventLoop R N C S) (handler : R) (clock : C) (known : Known S)
      → DrivesOne ways steps awaits tells number before.handler before.clock before.table (Err fault) handler clock known
      → Moves ways steps awaits tells polls {A = A} before (Err fault) (record { handler = handler; poller = before.poller; clock = clock; table = known })
  drive_failed A fault number before handler clock known (inl (is, same, same_clock, same_table)) = absurd (cc)
  drive_failed A fault number before handler clock known (inr (at, b, below, was, now, stay, (actions, middle, clock_middle, talks, turn, fails))) =
      drive_fails number before at b middle clock_middle known below was now stay A fault handler clock actions talks fails

  -- A connection is over, and its event is taken or refused.
  module _ (number : ℕ) (cause : CloseReason) (before : EventLoop R N C S) (at b c : ConnectionState S) (actions : List (Action S)) (handler : R) (clock : C) (known : Known S)
      (below : number < before.table.next) (was : found before.table number ≡ Some at) (now : found known number ≡ Some c) (stay : StaysOpen number before.table known)
      (talks : Talks steps awaits tells ways number before.handler before.clock (Open at) actions handler clock (Open b)) (stops : StopsFor ways b cause c) where
    abbrev stopped : EventLoop R N C S
    stopped = record { handler = handler; poller = before.poller; clock = clock; table = known }

    closes_so : closing_of c cause ≡ closing_of b cause
    closes_so = ap (λ (s : ConnectionState S). closing_of s cause) stops.1 ∙ closes_alike b c.stream cause

    module _ (mid : EventLoop R N C S) (leaves : Leaves polls number c (closing_of c cause) stopped mid) where
      others_stay : OthersStay number before.table mid.table
      others_stay = both_stay number before.table known mid.table stay.0 leaves.forgets.1

      gone : place_in mid.table number ≡ Over
      gone = let P : ℕ → Type 0 = λ n. number < n in place_over mid.table number (subst P (sym others_stay.next) below) leaves.forgets.0

      one_less : length before.table.entries ≡ length mid.table.entries + 1
      one_less = sym stay.1 ∙ leaves.one_fewer

      started : place_in before.table number ≡ Open at
      started = place_open before.table number at below was

      -- The last action ends the connection.
      ends_by : (last : Action S) (handler_after : R) → Does steps awaits tells number mid.handler last handler_after → moment_of last ≡ []
          → poll_of number last ≡ Close number c.stream (closing_of c cause) ∷ [] → Leads ways (Open b) last Over
          → CountsAction (most_open before.table.limits) (length before.table.entries) last (length mid.table.entries)
          → Goes ways steps awaits tells polls before (map (Of number) (actions ++ last ∷ [])) (record mid { handler = handler_after })
      ends_by last handler_after does no_moment is_close leads counts =
          let H : R → Type 0 = λ h. Does steps awaits tells number h last handler_after in
          let M : List ℕ → Type 0 = λ ms. AreTold tells clock (ms ++ []) mid.clock in
          let joined = talks_join steps awaits tells ways number before.handler handler handler_after before.clock clock mid.clock (Open at) (Open b) Over actions (last ∷ []) talks
          (record {
            went = record { takes = (handler_after, subst H leaves.same_handler does, refl); told = subst M (sym no_moment) leaves.same_clock };
            along = (Over, leads, refl);
          }) in
          let F : Slot S → Type 0 = λ p. Along ways p (actions ++ last ∷ []) (place_in mid.table number) in
          let T : Slot S → Type 0 = λ p. Along ways (Open at) (actions ++ last ∷ []) p in
          let P : List (PollerCall S) → Type 0 = λ calls. AreCalled polls before.poller calls mid.poller in
          let all_calls : flat_map (poll_of number) (actions ++ last ∷ []) ≡ Close number c.stream (closing_of c cause) ∷ [] =
          flat_one_more (poll_of number) actions last ∙ ap (λ front. front ++ poll_of number last) (open_silent ways number actions at b talks.along) ∙ is_close in
          goes_by ways steps awaits tells polls number before (record mid { handler = handler_after }) (actions ++ last ∷ []) joined.went
          (subst F (sym started) (subst T (sym gone) joined.along)) (subst P (sym all_calls) (mid.poller, leaves.closes, refl))
          (places_stay number before.table mid.table others_stay) others_stay.limits
          (last_counts ways number (most_open before.table.limits) (length before.table.entries) (length mid.table.entries) actions last at b talks.along counts)

      end_taken : {A : Type 0} (done : A) (reaction : Reaction) (handler_after : R) → steps mid.handler (over_event number (over_by cause)) (Ok reaction) handler_after
          → Moves ways steps awaits tells polls before (Ok done) (record mid { handler = handler_after })
      end_taken done reaction handler_after step = (
        map (Of number) (actions ++ Ends cause c.stream (closing_of c cause) reaction ∷ []),
        ends_notes,
        ends_by (Ends cause c.stream (closing_of c cause) reaction) handler_after step refl refl (stops.0, closes_so) one_less,
        all_rest number (place_in before.table) (place_in mid.table) (places_stay number before.table mid.table others_stay) (λ other is. absurd (not_open other (sym gone ∙ is))),
      )
        where
          not_open : (other : ConnectionState S) → ◌≡◌ {A = Slot S} Over (Open other) → ⊥
          not_open other is = cc

          ends_notes : AllByRecursion IsOfConnections (map (Of number) (actions ++ Ends cause c.stream (closing_of c cause) reaction ∷ []))
          ends_notes =
              let P : List (Note S) → Type 0 = λ notes. AllByRecursion IsOfConnections notes in
              subst P (sym (map-append (Of number) actions (Ends cause c.stream (closing_of c cause) reaction ∷ [])))
              (all_join IsOfConnections (map (Of number) actions) (Of number (Ends cause c.stream (closing_of c cause) reaction) ∷ []) (open_notes ways number actions at b talks.along) (tt, tt))

      end_refused : (A : Type 0) (fault : StepFault) (handler_after : R) → steps mid.handler (over_event number (over_by cause)) (Err fault) handler_after
          → Moves ways steps awaits tells polls {A = A} before (Err fault) (record mid { handler = handler_after })
      end_refused A fault handler_after step =
          let last : Action S = EndsUntold cause c.stream (closing_of c cause) in
          let N_ : List (Note S) → Type 0 = λ notes. Goes ways steps awaits tells polls before notes mid in
          let M : List ℕ → Type 0 = λ ms. AreTold tells mid.clock ms mid.clock in (
            map (Of number) actions,
            Of number last ∷ [],
            mid,
            open_notes ways number actions at b talks.along,
            subst N_ (map-append (Of number) actions (last ∷ [])) (ends_by last mid.handler refl refl refl (stops.0, closes_so) one_less),
            inr (
              over_event number (over_by cause),
              end_tried mid number (over_by cause) cause c.stream (closing_of c cause) refl,
              (step, subst M (sym (end_has_no_time number (over_by cause))) refl, refl),
            ),
          )

    leaves_so : (closing_at : ConnectionState S) (mid : EventLoop R N C S) → Leaves polls number closing_at (closing_of closing_at cause) stopped mid
        → Leaves polls number c (closing_of c cause) stopped mid
    leaves_so closing_at mid leaves =
        let P : ConnectionState S → Type 0 = λ s. Leaves polls number s (closing_of s cause) stopped mid in
        subst P (some_same closing_at c (sym leaves.is_found ∙ now)) leaves

    pub ended : {A : Type 0} (done : A) (after : EventLoop R N C S) (result : Result (Unit {0}) StepFault) → EndsOne polls steps number cause stopped result after
        → Moves ways steps awaits tells polls before (as_result done result) after
    ended done after (Ok _) (inl (mid, (closing_at, leaves), (reaction, step), same)) =
        let P : EventLoop R N C S → Type 0 = λ l. Moves ways steps awaits tells polls before (Ok done) l in
        subst P (sym same) (end_taken mid (leaves_so closing_at mid leaves) done reaction after.handler step)
    ended done after (Ok _) (inr (none, same)) = let no : None ≡ Some c = sym none ∙ now in absurd (cc)
    ended {A} done after (Err fault) (mid, (closing_at, leaves), step, same) =
        let P : EventLoop R N C S → Type 0 = λ l. Moves ways steps awaits tells polls {A = A} before (Err fault) l in
        subst P (sym same) (end_refused mid (leaves_so closing_at mid leaves) A fault after.handler step)

  -- A connection that was driven to its end.
  pub drove_over : {A : Type 0} (done : A) (number : ℕ) (cause : CloseReason) (told : Option CloseReason) → told ≡ Some cause
      → (before : EventLoop R N C S) (handler : R) (clock : C) (known : Known S)
      → DrivesOne ways steps awaits tells number before.handler before.clock before.table (Ok told) handler clock known
      → (after : EventLoop R N C S) (result : Result (Unit {0}) StepFault)
      → EndsOne polls steps number cause (record { handler = handler; poller = before.poller; clock = clock; table = known }) result after
      → Moves ways steps awaits tells polls before (as_result done result) after
  drove_over done number cause told is before handler clock known driven after result ends =
      let P : Option CloseReason → Type 0 = λ t. DrivesOne ways steps awaits tells number before.handler before.clock before.table (Ok t) handler clock known in
      by (subst P is driven)
    where
      by : DrivesOne ways steps awaits tells number before.handler before.clock before.table (Ok (Some cause)) handler clock known
          → Moves ways steps awaits tells polls before (as_result done result) after
      by (inl (is_none, same, same_clock, same_table)) = absurd (cc)
      by (inr (at, c, below, was, now, stay, (actions, b, talks, turn, stops))) =
          ended number cause before at b c actions handler clock known below was now stay talks stops done after result ends

  -- The connection of a number was given up, if it was open.
  pub gave_up : {A : Type 0} (done : A) (number : ℕ) (before after : EventLoop R N C S) (result : Result (Unit {0}) StepFault)
      → EndsOne polls steps number GivenUp before result after → Settles ways steps awaits tells polls before (as_result done result) after
  gave_up {A} done number before after result ends = by result ends
    where
      taken : (told : Result (Unit {0}) StepFault) (at : ConnectionState S) → number < before.table.next → found before.table number ≡ Some at
          → EndsOne polls steps number GivenUp before told after → Moves ways steps awaits tells polls before (as_result done told) after
      taken told at used is ends_so =
          ended number GivenUp before at at at [] before.handler before.clock before.table used is is
          (record { limits = refl; next = refl; accepted = refl; others = λ other apart. refl }, refl)
          (record { went = record { takes = refl; told = refl }; along = refl }) (inl refl, refl) done after told ends_so

      by : (told : Result (Unit {0}) StepFault) → EndsOne polls steps number GivenUp before told after
          → Settles ways steps awaits tells polls before (as_result done told) after
      by (Ok _) (inl (mid, (at, leaves), step, same)) =
          let W : EventLoop R N C S → Type 0 = λ l. StaysWithin before.table l.table in
          (taken (Ok tt) at leaves.is_used leaves.is_found (inl (mid, (at, leaves), step, same)), subst W (sym same) leaves.within)
      by (Ok _) (inr (none_so, same)) = settles_same ways steps awaits tells polls done before after same
      by (Err fault) (mid, (at, leaves), step, same) = taken (Err fault) at leaves.is_used leaves.is_found (mid, (at, leaves), step, same)

  -- An accepted stream was closed.
  module _ (before : EventLoop R N C S) (stream : S) (poller : N) (is : before.table.accepted ≡ Some stream) (free : found before.table before.table.next ≡ None)
      (closes : polls before.poller (Close before.table.next stream AtOnce) poller) where
    abbrev pub away_loop : EventLoop R N C S
    away_loop = record before { poller = poller; table = record before.table { next = before.table.next + 1; accepted = None } }

    away_stays : (other : ℕ) → other ≢ before.table.next → place_in away_loop.table other ≡ place_in before.table other
    away_stays = used_next before.table away_loop.table refl refl (λ other apart. refl)

    is_over : place_in away_loop.table before.table.next ≡ Over
    is_over = place_over away_loop.table before.table.next (omega arith) free

    pub away_goes : Goes ways steps awaits tells polls before (map (Of before.table.next) (TurnsAway stream AtOnce ∷ [])) away_loop
    away_goes =
        let F : Slot S → Type 0 = λ p. Along ways p (TurnsAway stream AtOnce ∷ []) (place_in away_loop.table before.table.next) in
        let T : Slot S → Type 0 = λ p. Along ways (Accepted stream) (TurnsAway stream AtOnce ∷ []) p in
        goes_by ways steps awaits tells polls before.table.next before away_loop (TurnsAway stream AtOnce ∷ []) (record { takes = (before.handler, refl, refl); told = refl })
        (subst F (sym (place_next before.table (Some stream) is)) (subst T (sym is_over) (Over, (refl, refl), refl))) (poller, closes, refl) away_stays refl (length before.table.entries, refl, refl)

    away_moves : {A : Type 0} (done : A) → Moves ways steps awaits tells polls before (Ok done) away_loop
    away_moves done = (
      map (Of before.table.next) (TurnsAway stream AtOnce ∷ []),
      (tt, tt),
      away_goes,
      all_rest before.table.next (place_in before.table) (place_in away_loop.table) away_stays (λ other at. absurd (not_open other (sym is_over ∙ at))),
    )
      where
        not_open : (other : ConnectionState S) → ◌≡◌ {A = Slot S} Over (Open other) → ⊥
        not_open other at = cc

  -- The accepted stream was closed, if there was one.
  pub turned_away : {A : Type 0} (done : A) (before after : EventLoop R N C S) → TurnsOneAway polls before after → Settles ways steps awaits tells polls before (Ok done) after
  turned_away done before after (inl (none, same)) = settles_same ways steps awaits tells polls done before after same
  turned_away done before after (inr (stream, poller, is, free, closes, same)) =
      let P : EventLoop R N C S → Type 0 = λ l. Settles ways steps awaits tells polls before (Ok done) l in
      subst P (sym same) (away_moves before stream poller is free closes done, λ within. within)

  -- The next stream was accepted.
  pub accepted_so : {A : Type 0} (done : A) (before : EventLoop R N C S) (poller : N) (stream : S) → before.table.accepted ≡ None
      → polls before.poller (Accept before.table.next (Some stream)) poller
      → Settles ways steps awaits tells polls before (Ok done) (record before { poller = poller; table = record before.table { accepted = Some stream } })
  accepted_so done before poller stream free call =
      let next = before.table.next in
      let after : EventLoop R N C S = record before { poller = poller; table = record before.table { accepted = Some stream } } in
      let F : Slot S → Type 0 = λ p. Along ways p (Accepts stream ∷ []) (place_in after.table next) in
      let T : Slot S → Type 0 = λ p. Along ways Unused (Accepts stream ∷ []) p in
      let now : place_in after.table next ≡ Accepted stream = place_next after.table (Some stream) refl in
      let moves : Moves ways steps awaits tells polls before (Ok done) after = (
        map (Of next) (Accepts stream ∷ []),
        (tt, tt),
        goes_by ways steps awaits tells polls next before after (Accepts stream ∷ []) (record { takes = (before.handler, refl, refl); told = refl })
            (subst F (sym (place_next before.table None free)) (subst T (sym now) (Accepted stream, refl, refl))) (poller, call, refl)
            (accepted_next before.table stream) refl (length before.table.entries, refl, refl),
        all_rest next (place_in before.table) (place_in after.table) (accepted_next before.table stream) (λ other is. absurd (not_open other (sym now ∙ is))),
      ) in
      (moves, λ within. within)
    where
      not_open : (other : ConnectionState S) → ◌≡◌ {A = Slot S} (Accepted stream) (Open other) → ⊥
      not_open other is = cc

  -- No connection waits.
  pub none_waits : {A : Type 0} (done : A) (before : EventLoop R N C S) (poller : N) → polls before.poller (Accept before.table.next None) poller
      → Settles ways steps awaits tells polls before (Ok done) (record before { poller = poller })
  none_waits done before poller call =
      let moves : Moves ways steps awaits tells polls before (Ok done) (record before { poller = poller }) = (
        NoneWaits before.table.next ∷ [],
        (tt, tt),
        record {
          went = record { takes = (before.handler, refl, refl); told = refl };
          polled = (poller, call, refl);
          courses = λ number. refl;
          limits = refl;
          counts = (length before.table.entries, refl, refl);
        },
        λ rest. rest,
      ) in
      (moves, λ within. within)

  -- The next connection is opened, or its event is refused.
  module _ (before : EventLoop R N C S) (room : length before.table.entries < most_open before.table.limits) (handler : R) (known : Known S)
      (opens : OpensNext before.table (Ok true) known) (within : StaysWithin before.table known) where
    abbrev next : ℕ
    next = before.table.next

    abbrev pub opened_loop : EventLoop R N C S
    opened_loop = record before { handler = handler; table = known }

    used_so : (other : ℕ) → other ≢ next → place_in known other ≡ place_in before.table other
    used_so = used_next before.table known opens.3 opens.2 opens.5

    is_open : place_in known next ≡ Open (fresh opens.0)
    is_open = let P : ℕ → Type 0 = λ n. next < n in place_open known next (fresh opens.0) (subst P (sym opens.3) (omega arith)) opens.4

    was_accepted : place_in before.table next ≡ Accepted opens.0
    was_accepted = place_next before.table (Some opens.0) opens.1

    pub opened_so : {A : Type 0} (done : A) (reaction : Reaction) → steps before.handler (Opened next) (Ok reaction) handler
        → Settles ways steps awaits tells polls before (Ok done) opened_loop
    opened_so done reaction step =
        let F : Slot S → Type 0 = λ p. Along ways p (Opens reaction ∷ []) (place_in known next) in
        let T : Slot S → Type 0 = λ p. Along ways (Accepted opens.0) (Opens reaction ∷ []) p in
        let moves : Moves ways steps awaits tells polls before (Ok done) opened_loop = (
          map (Of next) (Opens reaction ∷ []),
          (tt, tt),
          goes_by ways steps awaits tells polls next before opened_loop (Opens reaction ∷ []) (record { takes = (handler, step, refl); told = refl })
              (subst F (sym was_accepted) (subst T (sym is_open) (Open (fresh opens.0), refl, refl))) refl used_so opens.6 (length known.entries, (room, opens.7), refl),
          all_rest next (place_in before.table) (place_in known) used_so (λ other is. rests other (sym is_open ∙ is)),
        ) in
        (moves, within)
      where
        standing_at : Slot S → ConnectionState S
        standing_at Unused = fresh opens.0
        standing_at (Accepted stream) = fresh opens.0
        standing_at (Open other) = other
        standing_at Over = fresh opens.0

        rests : (other : ConnectionState S) → ◌≡◌ {A = Slot S} (Open (fresh opens.0)) (Open other) → other.rests ≡ true
        rests other is = sym (ap (λ p. (standing_at p).rests) is)

    pub opening_refused : (A : Type 0) (fault : StepFault) → steps before.handler (Opened next) (Err fault) handler
        → Settles ways steps awaits tells polls {A = A} before (Err fault) opened_loop
    opening_refused A fault step =
        let F : Slot S → Type 0 = λ p. Along ways p (OpensUntold ∷ []) (place_in known next) in
        let T : Slot S → Type 0 = λ p. Along ways (Accepted opens.0) (OpensUntold ∷ []) p in (
          [],
          map (Of next) (OpensUntold ∷ []),
          record before { table = known },
          tt,
          goes_by ways steps awaits tells polls next before (record before { table = known }) (OpensUntold ∷ []) (record { takes = (before.handler, refl, refl); told = refl })
              (subst F (sym was_accepted) (subst T (sym is_open) (Open (fresh opens.0), refl, refl))) refl used_so opens.6 (length known.entries, (room, opens.7), refl),
          inr (Opened next, refl, (step, refl, refl)),
        )

  -- The stream of a connection that was removed was closed.
  pub leaves_of : (number : ℕ) (at : ConnectionState S) (closing closing_so : Closing) (stream : S) (before : EventLoop R N C S) (poller : N) (known : Known S)
      → number < before.table.next → Some at ≡ found before.table number → closing ≡ closing_so → stream ≡ at.stream → polls before.poller (Close number stream closing) poller
      → ForgetsOne number before.table known → length before.table.entries ≡ length known.entries + 1 → StaysWithin before.table known
      → Leaves polls number at closing_so before (record before { poller = poller; table = known })
  leaves_of number at closing closing_so stream before poller known used is same same_stream closes forgets fewer within =
      let P : S → Type 0 = λ s. polls before.poller (Close number s closing) poller in
      let Q : Closing → Type 0 = λ k. polls before.poller (Close number at.stream k) poller in
      record {
        is_used = used;
        is_found = sym is;
        closes = subst Q same (subst P same_stream closes);
        forgets = forgets;
        one_fewer = fewer;
        within = within;
        same_handler = refl;
        same_clock = refl;
      }

  pub given_up : (number : ℕ) (before after : EventLoop R N C S) (result : Result (Unit {0}) StepFault)
      → EndsOne polls steps number GivenUp before result after → Settles ways steps awaits tells polls before result after
  given_up number before after (Ok done) ends = gave_up done number before after (Ok done) ends
  given_up number before after (Err fault) ends = gave_up {A = Unit {0}} tt number before after (Err fault) ends

  pub drove_none : {A : Type 0} (done : A) (number : ℕ) (before : EventLoop R N C S) (handler : R) (clock : C) (known : Known S)
      (told : Option CloseReason) → told ≡ None
      → DrivesOne ways steps awaits tells number before.handler before.clock before.table (Ok told) handler clock known
      → Moves ways steps awaits tells polls before (Ok done) (record { handler = handler; poller = before.poller; clock = clock; table = known })
  drove_none done number before handler clock known told none drives =
      let P : Option CloseReason → Type 0 = λ t. DrivesOne ways steps awaits tells number before.handler before.clock before.table (Ok t) handler clock known in
      drove_on done number before handler clock known (subst P none drives)

  not_opened : (before : EventLoop R N C S) (known : Known S) → known ≡ before.table → record before { table = known } ≡ before
  not_opened before known same = λ i. record before { table = same i }

  pub none_opened : {A : Type 0} (done : A) (before : EventLoop R N C S) (known : Known S) (opened : Bool) → opened ≡ false → OpensNext before.table (Ok opened) known
      → Settles ways steps awaits tells polls before (Ok done) (record before { table = known })
  none_opened done before known true is opens = absurd (cc)
  none_opened done before known false is same = settles_same ways steps awaits tells polls done before (record before { table = known }) (not_opened before known same)

  pub not_stored : (A : Type 0) (before : EventLoop R N C S) (known : Known S) → known ≡ before.table
      → Settles ways steps awaits tells polls {A = A} before (Err NoMemory) (record before { table = known })
  not_stored A before known same = ([], [], before, tt, goes_none ways steps awaits tells polls before, inl (refl, refl, not_opened before known same))

  pub opened_next : {A : Type 0} (done : A) (before : EventLoop R N C S) → length before.table.entries < most_open before.table.limits → (handler : R) (known : Known S) (opened : Bool) → opened ≡ true → OpensNext before.table (Ok opened) known
      → StaysWithin before.table known → (next : ℕ) → next ≡ before.table.next → (reaction : Reaction) → steps before.handler (Opened next) (Ok reaction) handler
      → Settles ways steps awaits tells polls before (Ok done) (record before { handler = handler; table = known })
  opened_next done before room handler known false is opens within next same reaction step = absurd (cc)
  opened_next done before room handler known true is opens within next same reaction step =
      let P : ℕ → Type 0 = λ n. steps before.handler (Opened n) (Ok reaction) handler in
      opened_so before room handler known opens within done reaction (subst P same step)

  pub open_refused : {A : Type 0} (before : EventLoop R N C S) → length before.table.entries < most_open before.table.limits → (handler : R) (known : Known S) (opened : Bool) → opened ≡ true → OpensNext before.table (Ok opened) known
      → StaysWithin before.table known → (next : ℕ) → next ≡ before.table.next → (fault : StepFault) → steps before.handler (Opened next) (Err fault) handler
      → (result : Result A StepFault) → IsErrAnd result (λ e. e ≡ fault)
      → Settles ways steps awaits tells polls before result (record before { handler = handler; table = known })
  open_refused before room handler known false is opens within next same fault step result refused = absurd (cc)
  open_refused {A} before room handler known true is opens within next same fault step result refused =
      let P : ℕ → Type 0 = λ n. steps before.handler (Opened n) (Err fault) handler in
      let Q : Result A StepFault → Type 0 = λ r. Settles ways steps awaits tells polls before r (record before { handler = handler; table = known }) in
      subst Q (sym (refused_as fault result refused)) (opening_refused before room handler known opens within A fault (subst P same step))

  -- The event of an end was refused or taken.
  pub end_failed : (number : ℕ) (cause : CloseReason) (before between : EventLoop R N C S) (handler : R) (happening : Happening) → happening ≡ over_event number (over_by cause)
      → ClosesOne polls number cause before true between → (fault : StepFault) → steps between.handler happening (Err fault) handler
      → (result : Result (Unit {0}) StepFault) → IsErrAnd result (λ e. e ≡ fault)
      → EndsOne polls steps number cause before result (record between { handler = handler })
  end_failed number cause before between handler happening is closes fault step result refused =
      let P : Happening → Type 0 = λ h. steps between.handler h (Err fault) handler in
      let Q : Result (Unit {0}) StepFault → Type 0 = λ r. EndsOne polls steps number cause before r (record between { handler = handler }) in
      subst Q (sym (refused_as fault result refused)) (between, closes, subst P is step, refl)

  pub end_done : (number : ℕ) (cause : CloseReason) (before between : EventLoop R N C S) (handler : R) (happening : Happening) → happening ≡ over_event number (over_by cause)
      → ClosesOne polls number cause before true between → (reaction : Reaction) → steps between.handler happening (Ok reaction) handler
      → EndsOne polls steps number cause before (Ok tt) (record between { handler = handler })
  end_done number cause before between handler happening is closes reaction step =
      let P : Happening → Type 0 = λ h. steps between.handler h (Ok reaction) handler in
      inl (between, closes, (reaction, subst P is step), refl)

pub not_some : {A : Type 0} (it : Option A) (b : Bool) → b ≡ is_some it → b ≡ false → it ≡ None
not_some None b is not_so = refl
not_some (Some x) b is not_so = let never : true ≡ false = sym is ∙ not_so in absurd (cc)

-- No number that is not used has a connection.
pub none_at_next : {S : Type 0} (next : ℕ) (entries : List (ℕ × ConnectionState S)) → AreBelow next entries → lookup (nat_eq next) entries ≡ None
none_at_next {S = S} next entries below = by (lookup (nat_eq next) entries) refl
  where
    by : (held : Option (ConnectionState S)) → lookup (nat_eq next) entries ≡ held → lookup (nat_eq next) entries ≡ None
    by None is = is
    by (Some at) is = let less : next < next = below next (subst IsSome (sym is) refl) in absurd (omega arith)
