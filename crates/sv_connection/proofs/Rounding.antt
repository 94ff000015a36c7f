-- One more round.
use Rattle.std.proofs.Common.{◌≡◌, ℕ, ◌+◌, ◌-◌, ◌^◌, inl, inr, Bool, true, false, cond, ltb, nat_eq, List, [], ◌∷◌, ◌++◌, Result, Ok, Err, flat_map, length, length-append, refl, sym, ap, ◌∙◌, subst, arith}
use Rattle.std.specs.Prelude.{IsErrAnd}
use Rattle.sv_connection.specs.Holding.{IsSettled, IsWithin}
use Rattle.sv_connection.specs.Known.{Known, none_left, place_in}
use Rattle.sv_connection.specs.LoopRuns.{round_notes}
use Rattle.sv_connection.specs.Loops.{Goes}
use Rattle.sv_connection.specs.Notes.{Reports}
use Rattle.sv_connection.specs.Polling.{Polling, Wait}
use Rattle.sv_connection.specs.Rounds.{IsRound, Round, Rounds, ServesAll, TakesEvent}
use Rattle.sv_connection.specs.Slots.{Open, Over, Unused}
use Rattle.sv_connection.specs.States.{ConnectionState}
use Rattle.sv_connection.specs.Ways.{Ways}
use Rattle.sv_connection.specs.declared.event_loop.EventLoop.{EventLoop}
use Rattle.sv_connection.specs.declared.poller.PollEvent.{PollEvent}
use Rattle.sv_connection.specs.declared.poller.PollEvent.TheVariants.{Stop}
use Rattle.sv_run.specs.Reacting.{Reacting}
use Rattle.sv_run.specs.declared.step_fault.StepFault.{StepFault}
use Rattle.sv_connection.proofs.Joining.{goes_join}
use Rattle.sv_connection.proofs.Looping.{goes_none, refused_as}
use Rattle.sv_wire.specs.declared.inbox.Awaited.{Awaited}

module _ {R N C S : Type 0} (ways : Ways S) (steps : Reacting R) (awaits : R → ℕ → Awaited) (tells : C → ℕ → C → Type 0) (polls : Polling N S) where
  -- The poller reported an event.
  pub reported : (before : EventLoop R N C S) (poller : N) (event : PollEvent) → polls before.poller (Wait event) poller
      → Goes ways steps awaits tells polls before (Reports event ∷ []) (record before { poller = poller })
  reported before poller event call =
      record { went = record { takes = (before.handler, refl, refl); told = refl }; polled = (poller, call, refl); courses = λ number. refl; limits = refl; counts = (length before.table.entries, refl, refl) }

  round_more : (before between after : EventLoop R N C S) (rounds : List (Round S)) (round : Round S) → Rounds ways steps awaits tells polls before rounds between
      → IsRound round.event between.table round.notes → Goes ways steps awaits tells polls between (round_notes round) after → IsSettled after.table
      → Rounds ways steps awaits tells polls before (rounds ++ round ∷ []) after
  round_more before between after [] round same is goes rests =
      let P : EventLoop R N C S → Type 0 = λ l. Rounds ways steps awaits tells polls l (round ∷ []) after in
      subst P same (after, is, goes, rests, refl)
  round_more before between after (first ∷ rounds) round (middle, is_first, first_goes, first_rests, later) is goes rests =
      (middle, is_first, first_goes, first_rests, round_more middle between after rounds round later is goes rests)

  -- The rounds so far, and their number.
  abbrev pub SoFar : EventLoop R N C S → ℕ → EventLoop R N C S → Type 0
  SoFar before count now =
      (rounds : List (Round S)) × (length rounds ≡ count) × Rounds ways steps awaits tells polls before rounds now × IsSettled now.table

  pub no_rounds : (before : EventLoop R N C S) → before.table ≡ none_left before.table.limits 0 → SoFar before 0 before
  no_rounds before none = ([], refl, refl, (λ number at is. absurd (not_open number at is), nothing_held))
    where
      nothing_held : IsWithin before.table
      nothing_held = let P : Known S → Type 0 = λ k. IsWithin k in subst P (sym none) (omega arith)

      closed : (b d : Bool) (at : ConnectionState S) → cond b Over (cond d Unused Unused) ≡ Open at → ⊥
      closed true d at is = cc
      closed false true at is = cc
      closed false false at is = cc

      not_open : (number : ℕ) (at : ConnectionState S) → place_in before.table number ≡ Open at → ⊥
      not_open number at is =
          closed (ltb number 0) (nat_eq number 0) at (sym (ap (λ known. place_in known number) none) ∙ is)

  -- One more round, whose event was taken.
  pub one_round : (before now after : EventLoop R N C S) (count : ℕ) (poller : N) (event : PollEvent) → SoFar before count now → polls now.poller (Wait event) poller
      → TakesEvent ways steps awaits tells polls event (record now { poller = poller }) (Ok tt) after → SoFar before (count + 1) after
  one_round before now after count poller event (rounds, counted, so_far, at_rest) call (notes, is, goes, rests) =
      let longer : length (rounds ++ record { event = event; notes = notes } ∷ []) ≡ length rounds + 1 = length-append rounds (record { event = event; notes = notes } ∷ []) in (
        rounds ++ record { event = event; notes = notes } ∷ [],
        omega (arith, counted),
        round_more before now after rounds (record { event = event; notes = notes }) so_far is
            (goes_join ways steps awaits tells polls now (record now { poller = poller }) after (Reports event ∷ []) notes (reported now poller event call) goes) (rests at_rest),
        rests at_rest,
      )

  -- The poller reported a stop.
  pub stopped : (before now : EventLoop R N C S) (count : ℕ) (poller : N) (event : PollEvent) → SoFar before count now → polls now.poller (Wait event) poller → event ≡ Stop
      → ServesAll ways steps awaits tells polls before (Ok tt) (record now { poller = poller })
  stopped before now count poller event (rounds, counted, so_far, at_rest) call is =
      let P : PollEvent → Type 0 = λ e. polls now.poller (Wait e) poller in
      (rounds, now, so_far, inl (reported now poller Stop (subst P is call)))

  -- All rounds that the loop may have were made.
  pub worn_out : (before now : EventLoop R N C S) (count : ℕ) → SoFar before count now → count ≡ 2 ^ 64 - 1 → ServesAll ways steps awaits tells polls before (Ok tt) now
  worn_out before now count (rounds, counted, so_far, at_rest) all = (rounds, now, so_far, inr (counted ∙ all, refl))

  -- A round failed.
  pub broken : (before now after : EventLoop R N C S) (count : ℕ) (poller : N) (event : PollEvent) → SoFar before count now → polls now.poller (Wait event) poller
      → (taken : Result (Unit {0}) StepFault) (fault : StepFault) → taken ≡ Err fault → TakesEvent ways steps awaits tells polls event (record now { poller = poller }) taken after
      → (result : Result (Unit {0}) StepFault) → IsErrAnd result (λ e. e ≡ fault) → ServesAll ways steps awaits tells polls before result after
  broken before now after count poller event (rounds, counted, so_far, at_rest) call taken fault is takes result refused =
      let P : Result (Unit {0}) StepFault → Type 0 = λ r. TakesEvent ways steps awaits tells polls event (record now { poller = poller }) r after in
      let Q : Result (Unit {0}) StepFault → Type 0 = λ r. ServesAll ways steps awaits tells polls before r after in
      let failed = subst P is takes in
      subst Q (sym (refused_as fault result refused)) (
        rounds,
        now,
        so_far,
        event,
        failed.0,
        failed.1,
        goes_join ways steps awaits tells polls now (record now { poller = poller }) failed.1 (Reports event ∷ []) failed.0 (reported now poller event call) failed.2,
        failed.3,
      )

  pub rounds_are_one : (before after : EventLoop R N C S) (rounds : List (Round S)) → Rounds ways steps awaits tells polls before rounds after
      → Goes ways steps awaits tells polls before (flat_map round_notes rounds) after
  rounds_are_one before after [] same =
      let P : EventLoop R N C S → Type 0 = λ l. Goes ways steps awaits tells polls before [] l in
      subst P (sym same) (goes_none ways steps awaits tells polls before)
  rounds_are_one before after (round ∷ rounds) (middle, is, goes, rests, later) =
      goes_join ways steps awaits tells polls before middle after (round_notes round) (flat_map round_notes rounds) goes (rounds_are_one middle after rounds later)

  -- The limits stay.
  pub serves_within : (before after : EventLoop R N C S) (result : Result (Unit {0}) StepFault) → ServesAll ways steps awaits tells polls before result after → after.table.limits ≡ before.table.limits
  serves_within before after (Ok done) (rounds, between, are, inl stops) = stops.limits ∙ (rounds_are_one before between rounds are).limits
  serves_within before after (Ok done) (rounds, between, are, inr (counted, same)) =
      ap (λ (l : EventLoop R N C S). l.table.limits) same ∙ (rounds_are_one before between rounds are).limits
  serves_within before after (Err fault) (rounds, between, are, event, notes, middle, goes, inl (is, same, round)) =
      ap (λ (l : EventLoop R N C S). l.table.limits) same ∙ goes.limits ∙ (rounds_are_one before between rounds are).limits
  serves_within before after (Err fault) (rounds, between, are, event, notes, middle, goes, inr (happening, is, refuses)) =
      ap (λ (l : EventLoop R N C S). l.table.limits) refuses.2 ∙ goes.limits ∙ (rounds_are_one before between rounds are).limits
