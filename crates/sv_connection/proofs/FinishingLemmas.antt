-- The end of the event loop.
use Rattle.std.proofs.Common.{◌≡◌, ◌⊎◌, ◌==◌, IsSome, length, ℕ, ◌+◌, ◌<◌, Bool, true, false, cond, nat_eq, inl, inr, List, [], ◌∷◌, ◌++◌, Option, None, Some, Result, refl, sym, ap, ◌∙◌, subst, flat_map, map, arith}
use Rattle.std.proofs.lemmas.List.{map-append}
use Rattle.std.specs.List.{AllByRecursion}
use Rattle.std.specs.Map.{lookup, set_value}
use Rattle.sv_connection.specs.Closing.{last_closing}
use Rattle.sv_connection.specs.Connection.{AreTold}
use Rattle.sv_connection.specs.Counting.{Counts}
use Rattle.sv_connection.specs.Course.{Along}
use Rattle.sv_connection.specs.Ending.{ClosesLast, Leaves, TurnsOneAway}
use Rattle.sv_connection.specs.Finishing.{EndsAll, Finishes, IsClose, IsCloseOfWritten, IsLast, IsLastOf, IsLastRound, IsWriting, LastRounds, OnlyDoes, SendsOut, TakesLast, WritesOn, WritesOutOne, WritesRest}
use Rattle.sv_connection.specs.Figures.{figures_of}
use Rattle.sv_connection.specs.Known.{AreBelow, Known, StaysOpen, OthersStay, found, most_open, none_left, place_in}
use Rattle.sv_connection.specs.Notes.{Note, Of, Reports, Shows, TakesAll, Went, moments, poll_of}
use Rattle.sv_connection.specs.Polling.{AreCalled, Close, PollerCall, Polling, Status, Wait}
use Rattle.sv_connection.specs.LoopRuns.{round_notes}
use Rattle.sv_connection.specs.Loops.{Goes}
use Rattle.sv_connection.specs.Rounds.{Round, ServesAll}
use Rattle.sv_connection.specs.Slots.{Action, Arms, Blocks, Causes, Closes, Leads, Open, Over, Slot, TurnsAway, Writes}
use Rattle.sv_connection.specs.States.{ConnectionState, is_writing}
use Rattle.sv_connection.specs.Steps.{ComesToRest, SendsOn}
use Rattle.sv_connection.specs.Ways.{Ways}
use Rattle.sv_connection.specs.Whole.{Serves}
use Rattle.sv_connection.specs.declared.allowance.Allowance.{Allowance}
use Rattle.sv_connection.specs.declared.close_reason.CloseReason.{CloseReason}
use Rattle.sv_connection.specs.declared.close_reason.CloseReason.TheVariants.{AnswerCloses, GivenUp, PeerEnded, ReadFails, WriteFails}
use Rattle.sv_connection.specs.declared.close_reason.Closing.TheVariants.{AtOnce, InStages}
use Rattle.sv_connection.specs.declared.event_loop.EventLoop.{EventLoop}
use Rattle.sv_connection.specs.declared.limits.Limits.{Limits}
use Rattle.sv_connection.specs.declared.pending_bytes.Sent.{Sent}
use Rattle.sv_connection.specs.declared.pending_bytes.Sent.TheVariants.{All, Fails, Waits}
use Rattle.sv_connection.specs.declared.poller.PollEvent.{PollEvent}
use Rattle.sv_connection.specs.declared.poller.PollEvent.TheVariants.{Asked, Crowded, Incoming, Ready, Second, Stop}
use Rattle.sv_connection.specs.declared.queries.Figures.{Figures}
use Rattle.sv_connection.specs.declared.step.Step.TheVariants.{GoesOn, Rests, IsOver}
use Rattle.sv_run.specs.Reacting.{Reacting}
use Rattle.sv_run.specs.declared.step_fault.StepFault.{StepFault}
use Rattle.sv_connection.proofs.AloneLemmas.{all_join, flat_one_more}
use Rattle.sv_connection.proofs.Driving.{away_goes}
use Rattle.sv_connection.proofs.Joining.{along_join, goes_join, went_join}
use Rattle.sv_connection.proofs.Looping.{goes_by, goes_none, last_counts, open_counts, open_silent}
use Rattle.sv_connection.proofs.Placing.{both_stay, place_open, place_over, places_stay, set_found, stays_open}
use Rattle.sv_connection.proofs.Rounding.{reported, serves_within}
use Rattle.sv_wire.specs.declared.inbox.Awaited.{Awaited}

some_same : {A : Type 0} (x y : A) → ◌≡◌ {A = Option A} (Some x) (Some y) → x ≡ y
some_same x y same = cc

module _ {S : Type 0} (ways : Ways S) where
  pub none_written : (at : ConnectionState S) → WritesOn ways at at
  none_written at = ([], tt, refl)

  pub writes_join : (first before after : ConnectionState S) → WritesOn ways first before → WritesOn ways before after → WritesOn ways first after
  writes_join first before after (actions, all, along) (more, all_more, along_more) =
      (actions ++ more, all_join IsWriting actions more all all_more, along_join ways (Open first) (Open before) (Open after) actions more along along_more)

  one_action : (before after : ConnectionState S) (action : Action S) → IsWriting action → Leads ways (Open before) action (Open after) → WritesOn ways before after
  one_action before after action is leads = (action ∷ [], (is, tt), (Open after, leads, refl))

  module _ (first before : ConnectionState S) (so_far : WritesOn ways first before) (left left_after : Allowance) (after : ConnectionState S) where
    pub sent_more : SendsOn ways before left GoesOn after left_after → WritesOn ways first after
    sent_more (bytes, leads, spends) = writes_join first before after so_far (one_action before after (Writes bytes) tt leads)

    rested : ComesToRest ways before after → SendsOut ways first Waits after
    rested (inl leads) = (writes_join first before after so_far (one_action before after Blocks tt leads), ap (λ s. s.rests) leads.2)
    rested (inr leads) = (writes_join first before after so_far (one_action before after Arms tt leads), ap (λ s. s.rests) leads.2)

    pub sent_rests : SendsOn ways before left Rests after left_after → SendsOut ways first Waits after
    sent_rests comes = rested comes

    -- Bytes wait to be written, so the connection ended by a write that failed, or was given up.
    cause_of : (cause : CloseReason) → 0 < length before.unsent → Causes ways before cause after.stream
        → Causes ways before GivenUp after.stream ⊎ Causes ways before WriteFails after.stream
    cause_of GivenUp some causes = inl causes
    cause_of WriteFails some causes = inr causes
    cause_of PeerEnded some (idle, made) = let none : length before.unsent ≡ 0 = ap length idle.1 in absurd (omega arith)
    cause_of ReadFails some (idle, made) = let none : length before.unsent ≡ 0 = ap length idle.1 in absurd (omega arith)
    cause_of AnswerCloses some (empty, closing, same) = let none : length before.unsent ≡ 0 = ap length empty in absurd (omega arith)

    pub sent_over : (cause : CloseReason) → 0 < length before.unsent → SendsOn ways before left (IsOver cause) after left_after → SendsOut ways first Fails after
    sent_over cause some (causes, same) = (before, so_far, cause_of cause some causes, same)

  -- The connection was written to up to the bound of the loop.
  pub sent_out : (first before : ConnectionState S) → WritesOn ways first before → SendsOut ways first Fails before
  sent_out first before so_far = (before, so_far, inl (inl refl), refl)

  module _ (limits : Limits) (number next : ℕ) (accepted : Option S) (entries entries_after : List (ℕ × ConnectionState S)) (known : Known S)
      (view : ◌≡◌ {A = Known S} (record { limits = limits; next = next; accepted = accepted; entries = entries }) known) where
    -- An open connection was written to.
    pub wrote_out : (at at_after : ConnectionState S) → entries_after ≡ set_value (nat_eq number) entries at_after → Some at ≡ lookup (nat_eq number) entries
        → AreBelow next entries → (sent : Sent) → SendsOut ways at sent at_after
        → WritesOutOne ways number known (Some sent) (record { limits = limits; next = next; accepted = accepted; entries = entries_after })
    wrote_out at at_after set is below sent sends =
        let P : Known S → Type 0 = λ k. WritesOutOne ways number k (Some sent) (record { limits = limits; next = next; accepted = accepted; entries = entries_after }) in
        subst P view (
          at,
          at_after,
          below number (subst IsSome is refl),
          sym is,
          set_found limits number next accepted entries entries_after at at_after set is,
          sends,
          stays_open limits number next accepted entries entries_after at at_after set is,
        )

    -- No open connection has this number.
    pub wrote_none : entries_after ≡ entries → WritesOutOne ways number known None (record { limits = limits; next = next; accepted = accepted; entries = entries_after })
    wrote_none same = (λ i. record { limits = limits; next = next; accepted = accepted; entries = same i }) ∙ view

module _ {S : Type 0} (number : ℕ) where
  -- Writes have no event and no time.
  writing_moments : (actions : List (Action S)) → AllByRecursion IsWriting actions → moments (map (Of number) actions) ≡ []
  writing_moments [] all = refl
  writing_moments (Writes bytes ∷ actions) (is, all) = writing_moments actions all
  writing_moments (Blocks ∷ actions) (is, all) = writing_moments actions all
  writing_moments (Arms ∷ actions) (is, all) = writing_moments actions all
  writing_moments (action ∷ actions) (is, all) = absurd is

  pub writing_notes : (actions : List (Action S)) → AllByRecursion IsWriting actions → AllByRecursion (IsLastOf number) (map (Of number) actions)
  writing_notes [] all = tt
  writing_notes (Writes bytes ∷ actions) (is, all) = ((refl, tt), writing_notes actions all)
  writing_notes (Blocks ∷ actions) (is, all) = ((refl, tt), writing_notes actions all)
  writing_notes (Arms ∷ actions) (is, all) = ((refl, tt), writing_notes actions all)
  writing_notes (action ∷ actions) (is, all) = absurd is

-- The close of a connection with nothing left to write.
written_note : {S : Type 0} (number : ℕ) (at : ConnectionState S) → is_writing at ≡ false → IsCloseOfWritten (Of number (Closes at.stream (last_closing at)))
written_note number at none =
    let P : Bool → Type 0 = λ b. IsCloseOfWritten (Of number (Closes at.stream (cond b AtOnce InStages))) in subst P (sym none) tt

-- ---- The end of the loop takes no event

-- A note at the end of the loop. The handler takes no event.
abbrev pub IsQuiet : {S : Type 0} → Note S → Type 0
IsQuiet (Reports event) = Unit {0}
IsQuiet (Shows figures) = Unit {0}
IsQuiet (Of number (TurnsAway stream closing)) = Unit {0}
IsQuiet (Of number action) = IsLast action
IsQuiet other = ⊥

module _ {S : Type 0} where
  closes_quiet : (notes : List (Note S)) → AllByRecursion IsClose notes → AllByRecursion IsQuiet notes
  closes_quiet [] all = tt
  closes_quiet (Of number (Closes stream closing) ∷ notes) (is, all) = (tt, closes_quiet notes all)
  closes_quiet (Of number (TurnsAway stream closing) ∷ notes) (is, all) = (tt, closes_quiet notes all)
  closes_quiet (Of number action ∷ notes) (is, all) = absurd is
  closes_quiet (note ∷ notes) (is, all) = absurd is

  written_closes : (notes : List (Note S)) → AllByRecursion IsCloseOfWritten notes → AllByRecursion IsClose notes
  written_closes [] all = tt
  written_closes (Of number (Closes stream InStages) ∷ notes) (is, all) = (tt, written_closes notes all)
  written_closes (Of number (Closes stream closing) ∷ notes) (is, all) = absurd is
  written_closes (Of number action ∷ notes) (is, all) = absurd is
  written_closes (note ∷ notes) (is, all) = absurd is

  ready_quiet : (number : ℕ) (notes : List (Note S)) → AllByRecursion (IsLastOf number) notes → AllByRecursion IsQuiet notes
  ready_quiet number [] all = tt
  ready_quiet number (Of other (Closes stream closing) ∷ notes) (is, all) = (tt, ready_quiet number notes all)
  ready_quiet number (Of other (Writes bytes) ∷ notes) (is, all) = (tt, ready_quiet number notes all)
  ready_quiet number (Of other Blocks ∷ notes) (is, all) = (tt, ready_quiet number notes all)
  ready_quiet number (Of other Arms ∷ notes) (is, all) = (tt, ready_quiet number notes all)
  ready_quiet number (Of other action ∷ notes) (is, all) = absurd is.1
  ready_quiet number (note ∷ notes) (is, all) = absurd is

  none_quiet : (notes : List (Note S)) → notes ≡ [] → AllByRecursion IsQuiet notes
  none_quiet notes none = let P : List (Note S) → Type 0 = λ all. AllByRecursion IsQuiet all in subst P (sym none) tt

  round_quiet : (event : PollEvent) (known : Known S) (notes : List (Note S)) → IsLastRound event known notes → AllByRecursion IsQuiet notes
  round_quiet (Ready number) known notes all = ready_quiet number notes all
  round_quiet Asked known notes is = let P : List (Note S) → Type 0 = λ all. AllByRecursion IsQuiet all in subst P (sym is) (tt, tt)
  round_quiet Incoming known notes none = none_quiet notes none
  round_quiet Crowded known notes none = none_quiet notes none
  round_quiet Second known notes none = none_quiet notes none
  round_quiet Stop known notes never = absurd never

module _ {R N C S : Type 0} (ways : Ways S) (steps : Reacting R) (awaits : R → ℕ → Awaited) (tells : C → ℕ → C → Type 0) (polls : Polling N S) where
  writing_takes : (number : ℕ) (handler : R) (actions : List (Action S)) → AllByRecursion IsWriting actions
      → TakesAll steps awaits tells handler (map (Of number) actions) handler
  writing_takes number handler [] all = refl
  writing_takes number handler (Writes bytes ∷ actions) (is, all) = (handler, refl, writing_takes number handler actions all)
  writing_takes number handler (Blocks ∷ actions) (is, all) = (handler, refl, writing_takes number handler actions all)
  writing_takes number handler (Arms ∷ actions) (is, all) = (handler, refl, writing_takes number handler actions all)
  writing_takes number handler (action ∷ actions) (is, all) = absurd is

  writing_went : (number : ℕ) (handler : R) (clock : C) (actions : List (Action S)) → AllByRecursion IsWriting actions
      → Went steps awaits tells handler clock (map (Of number) actions) handler clock
  writing_went number handler clock actions all =
      let M : List ℕ → Type 0 = λ ms. AreTold tells clock ms clock in
      record { takes = writing_takes number handler actions all; told = subst M (sym (writing_moments number actions all)) refl }

  module _ (is : Note S → Type 0) where
    pub only_none : (loop : EventLoop R N C S) → OnlyDoes ways steps awaits tells polls is loop loop
    only_none loop = ([], tt, goes_none ways steps awaits tells polls loop)

    pub only_join : (before between after : EventLoop R N C S) → OnlyDoes ways steps awaits tells polls is before between → OnlyDoes ways steps awaits tells polls is between after → OnlyDoes ways steps awaits tells polls is before after
    only_join before between after (notes, all, goes) (more, all_more, goes_on) =
        (notes ++ more, all_join is notes more all all_more, goes_join ways steps awaits tells polls before between after notes more goes goes_on)

    only_same : (before after : EventLoop R N C S) → after ≡ before → OnlyDoes ways steps awaits tells polls is before after
    only_same before after same = let P : EventLoop R N C S → Type 0 = λ l. OnlyDoes ways steps awaits tells polls is before l in subst P (sym same) (only_none before)

  -- ---- Rounds at the end

  -- An event of the poller was handled, for which nothing is done.
  pub nothing_done : (told event : PollEvent) → told ≡ event → ((known : Known S) → IsLastRound event known []) → (loop : EventLoop R N C S)
      → TakesLast ways steps awaits tells polls told loop loop
  nothing_done told event is round loop =
      let P : PollEvent → Type 0 = λ e. TakesLast ways steps awaits tells polls e loop loop in subst P (sym is) ([], round loop.table, goes_none ways steps awaits tells polls loop)

  -- A connection that is ready was written to.
  pub ready_last : (told : PollEvent) (number : ℕ) → told ≡ Ready number → (before after : EventLoop R N C S) → OnlyDoes ways steps awaits tells polls (IsLastOf number) before after
      → TakesLast ways steps awaits tells polls told before after
  ready_last told number is before after does = let P : PollEvent → Type 0 = λ e. TakesLast ways steps awaits tells polls e before after in subst P (sym is) does

  -- A query was answered.
  pub asked_last : (told : PollEvent) → told ≡ Asked → (before : EventLoop R N C S) (poller : N) (figures : Figures) → figures ≡ figures_of before.table
      → polls before.poller (Status figures) poller → TakesLast ways steps awaits tells polls told before (record before { poller = poller })
  asked_last told is before poller figures same call =
      let P : Figures → Type 0 = λ f. polls before.poller (Status f) poller in
      let Q : PollEvent → Type 0 = λ e. TakesLast ways steps awaits tells polls e before (record before { poller = poller }) in
      subst Q (sym is) (
        Shows (figures_of before.table) ∷ [],
        refl,
        record {
          went = record { takes = (before.handler, refl, refl); told = refl };
          polled = (poller, subst P same call, refl);
          courses = λ number. refl;
          limits = refl;
          counts = (length before.table.entries, refl, refl);
        },
      )

  -- The rounds so far.
  abbrev pub LastSoFar : EventLoop R N C S → EventLoop R N C S → Type 0
  LastSoFar before now = (rounds : List (Round S)) × LastRounds ways steps awaits tells polls before rounds now

  pub no_last_rounds : (loop : EventLoop R N C S) → LastSoFar loop loop
  no_last_rounds loop = ([], refl)

  last_more : (before between after : EventLoop R N C S) (rounds : List (Round S)) (round : Round S) → LastRounds ways steps awaits tells polls before rounds between
      → IsLastRound round.event between.table round.notes → Goes ways steps awaits tells polls between (round_notes round) after → LastRounds ways steps awaits tells polls before (rounds ++ round ∷ []) after
  last_more before between after [] round same is goes =
      let P : EventLoop R N C S → Type 0 = λ l. LastRounds ways steps awaits tells polls l (round ∷ []) after in subst P same (after, is, goes, refl)
  last_more before between after (first ∷ rounds) round (middle, is_first, first_goes, later) is goes =
      (middle, is_first, first_goes, last_more middle between after rounds round later is goes)

  -- One more round.
  pub one_last_round : (before now after : EventLoop R N C S) (poller : N) (event : PollEvent) → LastSoFar before now → polls now.poller (Wait event) poller
      → TakesLast ways steps awaits tells polls event (record now { poller = poller }) after → LastSoFar before after
  one_last_round before now after poller event (rounds, so_far) call (notes, is, goes) = (
    rounds ++ record { event = event; notes = notes } ∷ [],
    last_more before now after rounds (record { event = event; notes = notes }) so_far is
        (goes_join ways steps awaits tells polls now (record now { poller = poller }) after (Reports event ∷ []) notes (reported ways steps awaits tells polls now poller event call) goes),
  )

  -- No round follows.
  pub no_more_rounds : (before now : EventLoop R N C S) → LastSoFar before now → WritesRest ways steps awaits tells polls before now
  no_more_rounds before now (rounds, so_far) = (rounds, now, so_far, inl refl)

  -- The poller reported a stop.
  pub stopped_last : (before now : EventLoop R N C S) (poller : N) (event : PollEvent) → LastSoFar before now → polls now.poller (Wait event) poller → event ≡ Stop
      → WritesRest ways steps awaits tells polls before (record now { poller = poller })
  stopped_last before now poller event (rounds, so_far) call is =
      let P : PollEvent → Type 0 = λ e. polls now.poller (Wait e) poller in (rounds, now, so_far, inr (reported ways steps awaits tells polls now poller Stop (subst P is call)))

  -- ---- Closes at the end

  pub away_last : (before after : EventLoop R N C S) → TurnsOneAway polls before after → OnlyDoes ways steps awaits tells polls IsClose before after
  away_last before after (inl (none, same)) = only_same IsClose before after same
  away_last before after (inr (stream, poller, is, free, closes, same)) =
      let P : EventLoop R N C S → Type 0 = λ l. OnlyDoes ways steps awaits tells polls IsClose before l in
      subst P (sym same)
      (Of before.table.next (TurnsAway stream AtOnce) ∷ [], (tt, tt), away_goes ways steps awaits tells polls before stream poller is free closes)

  -- A connection is written to, and then its stream is closed.
  module _ (number : ℕ) (before : EventLoop R N C S) (at b c : ConnectionState S) (known : Known S) (after : EventLoop R N C S) (actions : List (Action S))
      (writing : AllByRecursion IsWriting actions) (along : Along ways (Open at) actions (Open b)) (causes : Causes ways b GivenUp c.stream ⊎ Causes ways b WriteFails c.stream)
      (same : c ≡ record b { stream = c.stream }) (below : number < before.table.next) (was : found before.table number ≡ Some at) (stay : StaysOpen number before.table known)
      (leaves : Leaves polls number c (last_closing c) (record before { table = known }) after) where
    abbrev last : Action S
    last = Closes c.stream (last_closing c)

    stays : OthersStay number before.table after.table
    stays = both_stay number before.table known after.table stay.0 leaves.forgets.1

    over_so : place_in after.table number ≡ Over
    over_so = let P : ℕ → Type 0 = λ n. number < n in place_over after.table number (subst P (sym stays.next) below) leaves.forgets.0

    went_so : Went steps awaits tells before.handler before.clock (map (Of number) (actions ++ last ∷ [])) after.handler after.clock
    went_so =
        let N : List (Note S) → Type 0 = λ notes. Went steps awaits tells before.handler before.clock notes after.handler after.clock in
        subst N (sym (map-append (Of number) actions (last ∷ [])))
        (went_join steps awaits tells before.handler before.handler after.handler before.clock before.clock after.clock (map (Of number) actions) (Of number last ∷ [])
        (writing_went number before.handler before.clock actions writing)
        (record { takes = (before.handler, refl, leaves.same_handler); told = leaves.same_clock }))

    calls_so : flat_map (poll_of number) (actions ++ last ∷ []) ≡ Close number c.stream (last_closing c) ∷ []
    calls_so = flat_one_more (poll_of number) actions last ∙ ap (λ front. front ++ poll_of number last) (open_silent ways number actions at b along)

    along_so : Along ways (Open at) (actions ++ last ∷ []) Over
    along_so =
        along_join ways (Open at) (Open b) Over actions (last ∷ []) along
        (Over, (causes, ap (λ (s : ConnectionState S). last_closing s) same), refl)

    notes_so : AllByRecursion (IsLastOf number) (map (Of number) (actions ++ last ∷ []))
    notes_so =
        let P : List (Note S) → Type 0 = λ notes. AllByRecursion (IsLastOf number) notes in
        subst P (sym (map-append (Of number) actions (last ∷ [])))
        (all_join (IsLastOf number) (map (Of number) actions) (Of number last ∷ []) (writing_notes number actions writing) ((refl, tt), tt))

    goes_so : Goes ways steps awaits tells polls before (map (Of number) (actions ++ last ∷ [])) after
    goes_so =
        let F : Slot S → Type 0 = λ p. Along ways p (actions ++ last ∷ []) (place_in after.table number) in
        let T : Slot S → Type 0 = λ p. Along ways (Open at) (actions ++ last ∷ []) p in
        let A : List (PollerCall S) → Type 0 = λ calls. AreCalled polls before.poller calls after.poller in
        goes_by ways steps awaits tells polls number before after (actions ++ last ∷ []) went_so
        (subst F (sym (place_open before.table number at below was)) (subst T (sym over_so) along_so))
        (subst A (sym calls_so) (after.poller, leaves.closes, refl))
        (places_stay number before.table after.table stays) stays.limits
        (last_counts ways number (most_open before.table.limits) (length before.table.entries) (length after.table.entries) actions last at b along
        (sym stay.1 ∙ leaves.one_fewer))

    wrote_and_closed : OnlyDoes ways steps awaits tells polls (IsLastOf number) before after
    wrote_and_closed = (map (Of number) (actions ++ last ∷ []), notes_so, goes_so)

  -- A connection was closed.
  close_goes : (number : ℕ) (before after : EventLoop R N C S) (at : ConnectionState S) → Leaves polls number at (last_closing at) before after
      → Goes ways steps awaits tells polls before (Of number (Closes at.stream (last_closing at)) ∷ []) after
  close_goes number before after at leaves =
      goes_so number before at at at before.table after [] tt refl (inl (inl refl)) refl leaves.is_used leaves.is_found
      (record { limits = refl; next = refl; accepted = refl; others = λ other apart. refl }, refl) leaves

  pub closed_last : (number : ℕ) (before after : EventLoop R N C S) → ClosesLast polls number before after → OnlyDoes ways steps awaits tells polls IsClose before after
  closed_last number before after (inl (at, leaves)) =
      (Of number (Closes at.stream (last_closing at)) ∷ [], (tt, tt), close_goes number before after at leaves)
  closed_last number before after (inr (none, same)) = only_same IsClose before after same

  -- A connection with nothing left to write was closed.
  pub closed_written : (number : ℕ) (before after : EventLoop R N C S) → ((at : ConnectionState S) → found before.table number ≡ Some at → is_writing at ≡ false)
      → ClosesLast polls number before after → OnlyDoes ways steps awaits tells polls IsCloseOfWritten before after
  closed_written number before after written (inl (at, leaves)) = (
    Of number (Closes at.stream (last_closing at)) ∷ [],
    (written_note number at (written at leaves.is_found), tt),
    close_goes number before after at leaves,
  )
  closed_written number before after written (inr (none, same)) = only_same IsCloseOfWritten before after same

  closed_ready : (number : ℕ) (before after : EventLoop R N C S) → ClosesLast polls number before after
      → OnlyDoes ways steps awaits tells polls (IsLastOf number) before after
  closed_ready number before after (inl (at, leaves)) =
      (Of number (Closes at.stream (last_closing at)) ∷ [], ((refl, tt), tt), close_goes number before after at leaves)
  closed_ready number before after (inr (none, same)) = only_same (IsLastOf number) before after same

  -- A connection was written to.
  wrote_on : (number : ℕ) (before : EventLoop R N C S) (at b : ConnectionState S) (known : Known S) (actions : List (Action S)) → AllByRecursion IsWriting actions
      → Along ways (Open at) actions (Open b) → number < before.table.next → found before.table number ≡ Some at → found known number ≡ Some b
      → StaysOpen number before.table known → OnlyDoes ways steps awaits tells polls (IsLastOf number) before (record before { table = known })
  wrote_on number before at b known actions writing along below was now stay =
      let F : Slot S → Type 0 = λ p. Along ways p actions (place_in known number) in
      let T : Slot S → Type 0 = λ p. Along ways (Open at) actions p in
      let P : ℕ → Type 0 = λ n. number < n in
      let A : List (PollerCall S) → Type 0 = λ calls. AreCalled polls before.poller calls before.poller in (
        map (Of number) actions,
        writing_notes number actions writing,
        goes_by ways steps awaits tells polls number before (record before { table = known }) actions (writing_went number before.handler before.clock actions writing)
            (subst F (sym (place_open before.table number at below was)) (subst T (sym (place_open known number b (subst P (sym stay.0.next) below) now)) along))
            (subst A (sym (open_silent ways number actions at b along)) refl)
            (places_stay number before.table known stay.0) stay.0.limits
            (let C : ℕ → Type 0 = λ n. Counts (most_open before.table.limits) (length before.table.entries) (map (Of number) actions) n in
            subst C (sym stay.1) (open_counts ways number (most_open before.table.limits) (length before.table.entries) actions at b along)),
      )

  pub wrote_nowhere : (number : ℕ) (before : EventLoop R N C S) (known : Known S) → WritesOutOne ways number before.table None known
      → OnlyDoes ways steps awaits tells polls (IsLastOf number) before (record before { table = known })
  wrote_nowhere number before known same =
      let P : Known S → Type 0 = λ k. OnlyDoes ways steps awaits tells polls (IsLastOf number) before (record before { table = k }) in
      subst P (sym same) (only_none (IsLastOf number) before)

  pub wrote_some : (number : ℕ) (before : EventLoop R N C S) (known : Known S) (sent : Sent) → sent ≡ Waits → WritesOutOne ways number before.table (Some sent) known
      → OnlyDoes ways steps awaits tells polls (IsLastOf number) before (record before { table = known })
  wrote_some number before known Waits is (at, b, below, was, now, ((actions, writing, along), rests), stay) =
      wrote_on number before at b known actions writing along below was now stay
  wrote_some number before known All is wrote = absurd (cc)
  wrote_some number before known Fails is wrote = absurd (cc)

  pub wrote_last : (number : ℕ) (before after : EventLoop R N C S) (known : Known S) (sent : Sent) → WritesOutOne ways number before.table (Some sent) known
      → ClosesLast polls number (record before { table = known }) after → OnlyDoes ways steps awaits tells polls (IsLastOf number) before after
  wrote_last number before after known All (at, b, below, was, now, ((actions, writing, along), none), stay) closes =
      only_join (IsLastOf number) before (record before { table = known }) after (wrote_on number before at b known actions writing along below was now stay)
      (closed_ready number (record before { table = known }) after closes)
  wrote_last number before after known Waits (at, b, below, was, now, ((actions, writing, along), rests), stay) closes =
      only_join (IsLastOf number) before (record before { table = known }) after (wrote_on number before at b known actions writing along below was now stay)
      (closed_ready number (record before { table = known }) after closes)
  wrote_last number before after known Fails (at, c, below, was, now, (b, (actions, writing, along), causes, same), stay) (inl (other, leaves)) =
      let P : ConnectionState S → Type 0 = λ s. Leaves polls number s (last_closing s) (record before { table = known }) after in
      wrote_and_closed number before at b c known after actions writing along causes same below was stay
      (subst P (some_same other c (sym leaves.is_found ∙ now)) leaves)
  wrote_last number before after known Fails (at, c, below, was, now, sends, stay) (inr (none, is_same)) =
      let never : None ≡ Some c = sym none ∙ now in absurd (cc)

  -- The end of the loop as one list of notes, for which the handler takes no event.
  rounds_quiet : (before after : EventLoop R N C S) (rounds : List (Round S)) → LastRounds ways steps awaits tells polls before rounds after → OnlyDoes ways steps awaits tells polls IsQuiet before after
  rounds_quiet before after [] same = only_same IsQuiet before after same
  rounds_quiet before after (round ∷ rounds) (between, is, goes, later) =
      only_join IsQuiet before between after (round_notes round, (tt, round_quiet round.event before.table round.notes is), goes)
      (rounds_quiet between after rounds later)

  rest_quiet : (before after : EventLoop R N C S) → WritesRest ways steps awaits tells polls before after → OnlyDoes ways steps awaits tells polls IsQuiet before after
  rest_quiet before after (rounds, between, are, inl same) =
      only_join IsQuiet before between after (rounds_quiet before between rounds are) (only_same IsQuiet between after same)
  rest_quiet before after (rounds, between, are, inr stops) =
      only_join IsQuiet before between after (rounds_quiet before between rounds are) (Reports Stop ∷ [], (tt, tt), stops)

  pub finishes_quiet : (before after : EventLoop R N C S) → Finishes ways steps awaits tells polls before after → OnlyDoes ways steps awaits tells polls IsQuiet before after
  finishes_quiet before after (written, rested, (first, are_written, first_goes), rest, (last, are_closes, last_goes)) =
      only_join IsQuiet before written after (first, closes_quiet first (written_closes first are_written), first_goes)
      (only_join IsQuiet written rested after (rest_quiet written rested rest) (last, closes_quiet last are_closes, last_goes))

  -- All connections were closed, and then the accepted stream.
  pub ended_all : (before written rested closed after : EventLoop R N C S) → OnlyDoes ways steps awaits tells polls IsCloseOfWritten before written → WritesRest ways steps awaits tells polls written rested
      → OnlyDoes ways steps awaits tells polls IsClose rested closed → closed.table.entries ≡ [] → TurnsOneAway polls closed after → EndsAll ways steps awaits tells polls before after
  ended_all before written rested closed after first rounds closes none away =
      let last = away_last closed after away in
      let finishes : Finishes ways steps awaits tells polls before after = (written, rested, first, rounds, only_join IsClose rested closed after closes last) in
      let same : closed.table.limits ≡ before.table.limits = sym last.2.limits ∙ (finishes_quiet before after finishes).2.limits in
      let empty = none_open away in
      let P : Limits → Type 0 = λ limits. after.table ≡ none_left limits empty.0 in
      (finishes, (empty.0, subst P same empty.1))
    where
      none_open : TurnsOneAway polls closed after → (next : ℕ) × (after.table ≡ none_left closed.table.limits next)
      none_open (inl (no_stream, same)) = (
        closed.table.next,
        ap (λ (l : EventLoop R N C S). l.table) same
            ∙ (λ i. record { limits = closed.table.limits; next = closed.table.next; accepted = no_stream i; entries = none i }),
      )
      none_open (inr (stream, poller, is, free, gone, same)) = (
        closed.table.next + 1,
        ap (λ (l : EventLoop R N C S). l.table) same
            ∙ (λ i. record { limits = closed.table.limits; next = closed.table.next + 1; accepted = None; entries = none i }),
      )

  -- The loop from its start to its end.
  pub served_whole : (limits : Limits) (start served finished : EventLoop R N C S) (result : Result (Unit {0}) StepFault) → start.table ≡ none_left limits 0
      → ServesAll ways steps awaits tells polls start result served → EndsAll ways steps awaits tells polls served finished
      → Serves ways steps awaits tells polls limits start.handler start.poller start.clock result finished.handler finished.poller finished.clock
  served_whole limits start served finished result empty serves (finishes, (next, none)) =
      let same : served.table.limits ≡ limits = serves_within ways steps awaits tells polls start served result serves ∙ ap (λ (k : Known S). k.limits) empty in
      let E : Limits → Type 0 = λ l. finished.table ≡ none_left l next in
      let P : Known S → Type 0 = λ k. ServesAll ways steps awaits tells polls (record start { table = k }) result served in
      let Q : Known S → Type 0 = λ k. Finishes ways steps awaits tells polls served (record finished { table = k }) in
      (served, next, subst P empty serves, subst Q (subst E same none) finishes)

-- A connection that is closed is one fewer.
pub one_fewer : {R N C S : Type 0} (polls : Polling N S) (number : ℕ) (before after : EventLoop R N C S) → IsSome (found before.table number) → ClosesLast polls number before after
    → length after.table.entries < length before.table.entries
one_fewer polls number before after is (inl (at, leaves)) = let fewer : length before.table.entries ≡ length after.table.entries + 1 = leaves.one_fewer in omega arith
one_fewer {S = S} polls number before after is (inr (none, same)) = absurd (no_more (found before.table number) none is)
  where
    no_more : (held : Option (ConnectionState S)) → held ≡ None → IsSome held → ⊥
    no_more held none some = let P : Option (ConnectionState S) → Type 0 = λ o. IsSome o in cc (subst P none some)

-- Some bytes wait to be written.
pub some_unsent : (bytes : List ℕ) (b : Bool) → b ≡ (length bytes == 0) → b ≡ false → 0 < length bytes
some_unsent [] b is not_so = let never : true ≡ false = sym is ∙ not_so in absurd (cc)
some_unsent (byte ∷ bytes) b is not_so = omega arith
