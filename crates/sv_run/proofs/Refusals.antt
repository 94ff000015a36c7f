-- Cuts and orders with refused events.
use Rattle.std.proofs.Common.{◌≡◌, ◌≢◌, ◌⊎◌, ℕ, true, false, inl, inr, List, [], ◌∷◌, ◌++◌, map, Option, None, Some, Ok, Err, refl, sym, ap, ◌∙◌, subst, append-nil}
use Rattle.std.specs.List.{AllByRecursion}
use Rattle.std.proofs.lemmas.Map.{update_here}
use Rattle.sv_journal.specs.declared.entry.Entry.{Entry}
use Rattle.sv_run.specs.Contexts.{Theory}
use Rattle.sv_run.specs.Effect.{Effect, joined_all}
use Rattle.sv_run.specs.Events.{Accepts, Edited, Ended, Happening, Happens, Lost, Opened, Piece, Refuses, Steps, Tick, connection_of, fault_of, moment_after, unknown_fault}
use Rattle.sv_run.specs.Lawful.{EditsAlone, EndsExpired}
use Rattle.sv_run.specs.Laws.{AcceptsBoth, AcceptsOtherwise, CompletesNothing, pieces_of, text_of_parts}
use Rattle.sv_run.specs.Orders.{CompletesNoItem, IsInParts, KeepsMoment, OrdersAreTakenAlike, PiecesAreTakenInParts, StepsBoth, StepsOtherwise, WantsNoMemory}
use Rattle.sv_run.specs.Runs.{Answer, Run}
use Rattle.sv_run.specs.State.{State, settled_at}
use Rattle.sv_run.specs.declared.step_fault.StepFault.{StepFault}
use Rattle.sv_run.specs.declared.step_fault.StepFault.TheVariants.{Stopped, BadConnection, TooManyConnections, NoMemory}
use Rattle.sv_run.proofs.Beside.{fault_beside, happens_apart}
use Rattle.sv_run.proofs.Tracing.{runs_on}
use Rattle.sv_run.proofs.Cuts.{in_parts, of_parts}
use Rattle.sv_run.proofs.Joining.{refused_events_change_nothing}
use Rattle.sv_run.proofs.Orders.{other_first, piece_first}

module _ {Context Words : Type 0} (theory : Theory Context Words) where
  happens_runs : (state after : State Context Words) (happening : Happening) (effect : Effect Context) → Happens theory state happening effect after
      → after.stopped ≡ state.stopped
  happens_runs state after (Opened other) effect happens = ap (λ (s : State Context Words). s.stopped) happens.1
  happens_runs state after (Piece other bytes moment) effect happens = ap (λ (s : State Context Words). s.stopped) happens.is_after
  happens_runs state after (Ended other) effect happens = ap (λ (s : State Context Words). s.stopped) happens.1
  happens_runs state after (Lost other) effect happens = ap (λ (s : State Context Words). s.stopped) happens.1
  happens_runs state after (Tick moment) effect happens = ap (λ (s : State Context Words). s.stopped) happens.1
  happens_runs state after (Edited path edit) effect happens = ap (λ (s : State Context Words). s.stopped) happens.is_after

  -- an accepted event leaves the container running
  pub accepted_runs : (before after : State Context Words) (happening : Happening) (effect : Effect Context) → Accepts theory before happening effect after
      → after.stopped ≡ false
  accepted_runs before after happening effect accepts =
      happens_runs (settled_at (moment_after before.moment happening) accepts.contexts before) after happening accepts.brings accepts.happens ∙ accepts.runs

  -- a stopped container refuses an event as Stopped, and a running one refuses it for the event's own fault
  abbrev IsRefusedFor : State Context Words → Happening → StepFault → State Context Words → Type 0
  IsRefusedFor before happening fault after = ((before.stopped ≡ true) × (fault ≡ Stopped)) ⊎ (Refuses theory before happening fault after × (fault ≢ Stopped))

  refused_for : (before after : State Context Words) (happening : Happening) (fault : StepFault) → fault ≢ NoMemory
      → Steps theory before happening (Err fault) after → IsRefusedFor before happening fault after
  refused_for before after happening Stopped ample steps = inl (steps.0, refl)
  refused_for before after happening BadConnection ample steps = inr (steps, λ is. absurd (cc))
  refused_for before after happening TooManyConnections ample steps = inr (steps, λ is. absurd (cc))
  refused_for before after happening NoMemory ample steps = absurd (ample refl)

  -- a running container refuses an event that has a fault of its own
  refuses : (before : State Context Words) (happening : Happening) (fault : StepFault) → fault ≢ NoMemory → fault ≢ Stopped → before.stopped ≡ false
      → fault_of before.connections happening ≡ Some fault → Steps theory before happening (Err fault) before
  refuses before happening Stopped ample runs_not runs is_fault = absurd (runs_not refl)
  refuses before happening BadConnection ample runs_not runs is_fault = record { runs = runs; is_fault = is_fault; stays = refl }
  refuses before happening TooManyConnections ample runs_not runs is_fault = record { runs = runs; is_fault = is_fault; stays = refl }
  refuses before happening NoMemory ample runs_not runs is_fault = absurd (ample refl)

  ample_fault : (fault : StepFault) → WantsNoMemory {Context = Context} (Err fault) → fault ≢ NoMemory
  ample_fault fault ample is = ample (ap Err is)

  -- ---- two events, neither of which changes the fault of the other

  module _ (before : State Context Words) (first second : Happening) (journal : List Entry) (after : State Context Words)
      (first_beside : (after : State Context Words) (effect : Effect Context) → Accepts theory before first effect after
      → fault_of after.connections second ≡ fault_of before.connections second)
      (second_beside : (after : State Context Words) (effect : Effect Context) → Accepts theory before second effect after
      → fault_of after.connections first ≡ fault_of before.connections first)
      (accepted : (front back : Effect Context) → fault_of before.connections first ≡ None → fault_of before.connections second ≡ None
      → AcceptsBoth theory before first second front back journal after → AcceptsOtherwise theory before first second front back journal after) where
    both_accepted : (front back : Effect Context) → StepsBoth theory before first second (Ok front) (Ok back) journal after
        → StepsOtherwise theory before first second (Ok front) (Ok back) journal after
    both_accepted front back both =
        let found = accepted front back both.begins.no_fault (sym (first_beside both.between front both.begins) ∙ both.goes_on.no_fault)
        record {
          between = both.between;
          begins = both.begins;
          goes_on = both.goes_on;
          is_joined = both.is_joined ∙ ap (λ more. front.journal ++ more) (append-nil back.journal);
        } in
        record {
          other_one = Ok found.other_front;
          other_two = Ok found.other_back;
          steps =
              record {
                between = found.accepts.between;
                begins = found.accepts.begins;
                goes_on = found.accepts.goes_on;
                is_joined = found.accepts.is_joined ∙ ap (λ more. found.other_front.journal ++ more) (sym (append-nil found.other_back.journal));
              };
          first_alike = found.first_alike;
          second_alike = found.second_alike;
        }

    second_refused : (front : Effect Context) (fault : StepFault) → fault ≢ NoMemory
        → (both : StepsBoth theory before first second (Ok front) (Err fault) journal after) → IsRefusedFor both.between second fault after
        → StepsOtherwise theory before first second (Ok front) (Err fault) journal after
    second_refused front fault ample both (inl stopped) = absurd (runs_on stopped.0 (accepted_runs before both.between first front both.begins))
    second_refused front fault ample both (inr refused) =
        record {
          other_one = Err fault;
          other_two = Ok front;
          steps =
              record {
                between = before;
                begins =
                    refuses before second fault ample refused.1 both.begins.runs
                    (sym (first_beside both.between front both.begins) ∙ refused.0.is_fault);
                goes_on = subst (λ s. Accepts theory before first front s) (sym refused.0.stays) both.begins;
                is_joined = both.is_joined;
              };
          first_alike = record { sends = refl; closes = refl; deeds = refl; edited = refl };
          second_alike = refl;
        }

    first_refused : (fault : StepFault) (back : Effect Context) → fault ≢ NoMemory
        → (both : StepsBoth theory before first second (Err fault) (Ok back) journal after) → both.between ≡ before
        → IsRefusedFor before first fault both.between
        → StepsOtherwise theory before first second (Err fault) (Ok back) journal after
    first_refused fault back ample both stays (inl stopped) =
        absurd (runs_on (ap (λ (s : State Context Words). s.stopped) stays ∙ stopped.0) both.goes_on.runs)
    first_refused fault back ample both stays (inr refused) =
        let accepts = subst (λ s. Accepts theory s second back after) stays both.goes_on in
        record {
          other_one = Ok back;
          other_two = Err fault;
          steps =
              record {
                between = after;
                begins = accepts;
                goes_on =
                    refuses after first fault ample refused.1 (accepted_runs before after second back accepts)
                    (second_beside after back accepts ∙ refused.0.is_fault);
                is_joined = both.is_joined;
              };
          first_alike = refl;
          second_alike = record { sends = refl; closes = refl; deeds = refl; edited = refl };
        }

    both_refused : (fault other : StepFault) → fault ≢ NoMemory → other ≢ NoMemory
        → StepsBoth theory before first second (Err fault) (Err other) journal after
        → StepsOtherwise theory before first second (Err fault) (Err other) journal after
    both_refused fault other ample also both =
        let stays = refused_events_change_nothing theory before both.between first fault both.begins ample in
        let stays_on = refused_events_change_nothing theory both.between after second other both.goes_on also in
        record {
          other_one = Err other;
          other_two = Err fault;
          steps =
              record {
                between = after;
                begins = subst (λ s. Steps theory s second (Err other) after) stays both.goes_on;
                goes_on =
                    subst (λ s. Steps theory s first (Err fault) after) (sym (stays_on ∙ stays))
                    (subst (λ s. Steps theory before first (Err fault) s) (sym stays_on) both.begins);
                is_joined = both.is_joined;
              };
          first_alike = refl;
          second_alike = refl;
        }

    pub otherwise : (one two : Answer Context) → WantsNoMemory one → WantsNoMemory two → StepsBoth theory before first second one two journal after
        → StepsOtherwise theory before first second one two journal after
    otherwise (Ok front) (Ok back) ample also both = both_accepted front back both
    otherwise (Ok front) (Err fault) ample also both =
        second_refused front fault (ample_fault fault also) both (refused_for both.between after second fault (ample_fault fault also) both.goes_on)
    otherwise (Err fault) (Ok back) ample also both =
        first_refused fault back (ample_fault fault ample) both
        (refused_events_change_nothing theory before both.between first fault both.begins (ample_fault fault ample))
        (refused_for before both.between first fault (ample_fault fault ample) both.begins)
    otherwise (Err fault) (Err other) ample also both = both_refused fault other (ample_fault fault ample) (ample_fault other also) both

  -- ---- a piece that completes no item, and an event of another connection

  completes_nothing : (state : State Context Words) (number : ℕ) (bytes : List ℕ) → unknown_fault (state.connections.held number) ≡ None
      → CompletesNoItem state number bytes → CompletesNothing state number bytes
  completes_nothing state number bytes no_fault (inl none) =
      let never : unknown_fault None ≡ None = ap unknown_fault (sym none) ∙ no_fault in
      absurd (cc)
  completes_nothing state number bytes no_fault (inr completes) = completes

  module _ (alone : EditsAlone theory.path_of theory.conduct) (ends : EndsExpired theory) (before after : State Context Words) (number : ℕ) (bytes : List ℕ)
      (moment : ℕ) (other : Happening) (journal : List Entry) (one two : Answer Context) (ample : WantsNoMemory one) (also : WantsNoMemory two)
      (apart : connection_of other ≢ Some number) (piece_keeps : KeepsMoment before (Piece number bytes moment)) (other_keeps : KeepsMoment before other)
      (completes : CompletesNoItem before number bytes) where
    other_beside : (after : State Context Words) (effect : Effect Context) → Accepts theory before other effect after
        → fault_of after.connections (Piece number bytes moment) ≡ fault_of before.connections (Piece number bytes moment)
    other_beside after effect accepts =
        ap unknown_fault
        (happens_apart theory (settled_at (moment_after before.moment other) accepts.contexts before) after number other accepts.brings apart accepts.happens)

    piece_beside : (after : State Context Words) (effect : Effect Context) → Accepts theory before (Piece number bytes moment) effect after
        → fault_of after.connections other ≡ fault_of before.connections other
    piece_beside after effect accepts =
        ap (λ (s : State Context Words). fault_of s.connections other) accepts.happens.is_after ∙ fault_beside before number accepts.happens.left other apart

    piece_goes_first : StepsBoth theory before (Piece number bytes moment) other one two journal after
        → StepsOtherwise theory before (Piece number bytes moment) other one two journal after
    piece_goes_first =
        otherwise before (Piece number bytes moment) other journal after piece_beside other_beside
        (λ front back no_fault other_none both. other_first theory alone ends before after number bytes moment other journal front back apart
        (piece_keeps both.begins.runs no_fault) (other_keeps both.begins.runs other_none) (completes_nothing before number bytes no_fault completes) both)
        one two ample also

    other_goes_first : StepsBoth theory before other (Piece number bytes moment) one two journal after
        → StepsOtherwise theory before other (Piece number bytes moment) one two journal after
    other_goes_first =
        otherwise before other (Piece number bytes moment) journal after other_beside piece_beside
        (λ front back other_none no_fault both. piece_first theory alone ends before after number bytes moment other journal front back apart
        (piece_keeps both.begins.runs no_fault) (other_keeps both.begins.runs other_none) (completes_nothing before number bytes no_fault completes) both)
        one two ample also

  pub orders_are_taken_alike : EditsAlone theory.path_of theory.conduct → EndsExpired theory → OrdersAreTakenAlike theory
  orders_are_taken_alike alone ends before after number bytes moment other journal one two ample also apart piece_keeps other_keeps completes = (
    piece_goes_first alone ends before after number bytes moment other journal one two ample also apart piece_keeps other_keeps completes,
    other_goes_first alone ends before after number bytes moment other journal one two ample also apart piece_keeps other_keeps completes,
  )

  -- ---- the parts of a piece

  module _ (number moment : ℕ) where
    -- if a piece is refused, the same refusal applies to any other bytes
    same_refusal : (before after : State Context Words) (text other : List ℕ) (fault : StepFault) → fault ≢ NoMemory
        → Steps theory before (Piece number text moment) (Err fault) after → Steps theory before (Piece number other moment) (Err fault) before
    same_refusal before after text other Stopped ample steps = (steps.0, refl)
    same_refusal before after text other BadConnection ample steps = record { runs = steps.runs; is_fault = steps.is_fault; stays = refl }
    same_refusal before after text other TooManyConnections ample steps = record { runs = steps.runs; is_fault = steps.is_fault; stays = refl }
    same_refusal before after text other NoMemory ample steps = absurd (ample refl)

    refused_in_parts : (before : State Context Words) (text : List ℕ) (fault : StepFault) → fault ≢ NoMemory
        → Steps theory before (Piece number text moment) (Err fault) before → (parts : List (List ℕ))
        → Run theory before (pieces_of number moment parts) (map (λ part. Err fault) parts) before
        × AllByRecursion (λ (answer : Answer Context). answer ≡ Err fault) (map (λ part. Err fault) parts)
    refused_in_parts before text fault ample steps [] = (refl, tt)
    refused_in_parts before text fault ample steps (part ∷ parts) =
        let later = refused_in_parts before text fault ample steps parts in
        ((before, same_refusal before before text part fault ample steps, later.0), (refl, later.1))

    -- it has no other answer
    only_refusal : (before after : State Context Words) (text : List ℕ) (fault : StepFault) (answer : Answer Context) → WantsNoMemory answer
        → IsRefusedFor before (Piece number text moment) fault before → Steps theory before (Piece number text moment) answer after
        → answer ≡ Err fault
    only_refusal before after text fault (Ok effect) ample (inl stopped) steps = absurd (runs_on stopped.0 steps.runs)
    only_refusal before after text fault (Ok effect) ample (inr refused) steps =
        let never : Some fault ≡ None = sym refused.0.is_fault ∙ steps.no_fault in
        absurd (cc)
    only_refusal before after text fault (Err Stopped) ample (inl stopped) steps = ap Err (sym stopped.1)
    only_refusal before after text fault (Err Stopped) ample (inr refused) steps = absurd (runs_on steps.0 refused.0.runs)
    only_refusal before after text fault (Err BadConnection) ample (inl stopped) steps = absurd (runs_on stopped.0 steps.runs)
    only_refusal before after text fault (Err BadConnection) ample (inr refused) steps = same_fault BadConnection fault (sym steps.is_fault ∙ refused.0.is_fault)
      where
        same_fault : (one two : StepFault) → ◌≡◌ {A = Option StepFault} (Some one) (Some two) → ◌≡◌ {A = Answer Context} (Err one) (Err two)
        same_fault one two same = cc
    only_refusal before after text fault (Err TooManyConnections) ample (inl stopped) steps = absurd (runs_on stopped.0 steps.runs)
    only_refusal before after text fault (Err TooManyConnections) ample (inr refused) steps = same_fault TooManyConnections fault (sym steps.is_fault ∙ refused.0.is_fault)
      where
        same_fault : (one two : StepFault) → ◌≡◌ {A = Option StepFault} (Some one) (Some two) → ◌≡◌ {A = Answer Context} (Err one) (Err two)
        same_fault one two same = cc
    only_refusal before after text fault (Err NoMemory) ample refused steps = absurd (ample refl)

    all_refused : (before after : State Context Words) (text : List ℕ) (fault : StepFault) → fault ≢ NoMemory
        → Steps theory before (Piece number text moment) (Err fault) before → (parts : List (List ℕ)) (answers : List (Answer Context))
        → AllByRecursion WantsNoMemory answers → Run theory before (pieces_of number moment parts) answers after
        → AllByRecursion (λ (answer : Answer Context). answer ≡ Err fault) answers × (after ≡ before)
    all_refused before after text fault ample steps [] [] none run = (tt, run)
    all_refused before after text fault ample steps [] (answer ∷ answers) none run = absurd run
    all_refused before after text fault ample steps (part ∷ parts) [] none run = absurd run
    all_refused before after text fault ample steps (part ∷ parts) (answer ∷ answers) none run =
        let refused = same_refusal before before text part fault ample steps in
        let is = only_refusal before run.0 part fault answer none.0 (refused_for before before (Piece number part moment) fault ample refused) run.1 in
        let stays = refused_events_change_nothing theory before run.0 (Piece number part moment) fault
        (subst (λ a. Steps theory before (Piece number part moment) a run.0) is run.1) ample in
        let later = all_refused before after text fault ample steps parts answers none.1
        (subst (λ s. Run theory s (pieces_of number moment parts) answers after) stays run.2) in
        ((is, later.0), later.1)

    -- after an accepted piece, the connection is known
    known_on : (before after : State Context Words) (bytes : List ℕ) (effect : Effect Context) → Accepts theory before (Piece number bytes moment) effect after
        → unknown_fault (after.connections.held number) ≡ None
    known_on before after bytes effect accepts =
        ap (λ (s : State Context Words). unknown_fault (s.connections.held number)) accepts.happens.is_after
        ∙ ap unknown_fault (update_here before.connections.held number (Some accepts.happens.left))

    all_accepted : (before after : State Context Words) (parts : List (List ℕ)) (answers : List (Answer Context)) → before.stopped ≡ false
        → unknown_fault (before.connections.held number) ≡ None → AllByRecursion WantsNoMemory answers
        → Run theory before (pieces_of number moment parts) answers after → (effects : List (Effect Context)) × (answers ≡ map Ok effects)
    all_accepted before after [] [] runs known none run = ([], refl)
    all_accepted before after [] (answer ∷ answers) runs known none run = absurd run
    all_accepted before after (part ∷ parts) [] runs known none run = absurd run
    all_accepted before after (part ∷ parts) (Ok effect ∷ answers) runs known none run =
        let later = all_accepted run.0 after parts answers (accepted_runs before run.0 (Piece number part moment) effect run.1)
        (known_on before run.0 part effect run.1) none.1 run.2 in
        (effect ∷ later.0, ap (λ more. Ok effect ∷ more) later.1)
    all_accepted before after (part ∷ parts) (Err Stopped ∷ answers) runs known none run = absurd (runs_on run.1.0 runs)
    all_accepted before after (part ∷ parts) (Err BadConnection ∷ answers) runs known none run =
        let never : Some BadConnection ≡ None = sym run.1.is_fault ∙ known in
        absurd (cc)
    all_accepted before after (part ∷ parts) (Err TooManyConnections ∷ answers) runs known none run =
        let never : Some TooManyConnections ≡ None = sym run.1.is_fault ∙ known in
        absurd (cc)
    all_accepted before after (part ∷ parts) (Err NoMemory ∷ answers) runs known none run = absurd (none.0 refl)

  module _ (ends : EndsExpired theory) (before after : State Context Words) (number : ℕ) (first : List ℕ) (parts : List (List ℕ)) (moment : ℕ) where
    is_taken_in_parts : (answer : Answer Context) → WantsNoMemory answer → Steps theory before (Piece number (first ++ text_of_parts parts) moment) answer after
        → (answers : List (Answer Context)) × Run theory before (pieces_of number moment (first ∷ parts)) answers after × IsInParts answer answers
    is_taken_in_parts (Ok effect) ample steps =
        let found = in_parts theory ends number moment before after first parts effect steps in
        (map Ok found.0, found.1, (found.0, refl, found.2))
    is_taken_in_parts (Err fault) ample steps =
        let text = first ++ text_of_parts parts in
        let refused = same_refusal number moment before after text text fault (ample_fault fault ample) steps in
        let found = refused_in_parts number moment before text fault (ample_fault fault ample) refused (first ∷ parts) in (
          map (λ part. Err fault) (first ∷ parts),
          subst (λ s. Run theory before (pieces_of number moment (first ∷ parts)) (map (λ part. Err fault) (first ∷ parts)) s)
              (sym (refused_events_change_nothing theory before after (Piece number text moment) fault steps (ample_fault fault ample))) found.0,
          found.1,
        )

    is_taken_whole : (answers : List (Answer Context)) → AllByRecursion WantsNoMemory answers
        → Run theory before (pieces_of number moment (first ∷ parts)) answers after
        → (answer : Answer Context) × Steps theory before (Piece number (first ++ text_of_parts parts) moment) answer after × IsInParts answer answers
    is_taken_whole [] none run = absurd run
    is_taken_whole (Ok effect ∷ answers) none run =
        let found = all_accepted number moment before after (first ∷ parts) (Ok effect ∷ answers) run.1.runs run.1.no_fault none run in (
          Ok (joined_all found.0),
          of_parts theory ends number moment before after first parts found.0
              (subst (λ given. Run theory before (pieces_of number moment (first ∷ parts)) given after) found.1 run),
          (found.0, found.1, refl),
        )
    is_taken_whole (Err fault ∷ answers) none run =
        let ample = ample_fault fault none.0 in
        let text = first ++ text_of_parts parts in
        let refused = same_refusal number moment before run.0 first text fault ample run.1 in
        let found = all_refused number moment before after text fault ample refused (first ∷ parts) (Err fault ∷ answers) none run in
        (Err fault, subst (λ s. Steps theory before (Piece number text moment) (Err fault) s) (sym found.1) refused, found.0)

  pub pieces_are_taken_in_parts : EndsExpired theory → PiecesAreTakenInParts theory
  pieces_are_taken_in_parts ends before after number first parts moment =
      (is_taken_in_parts ends before after number first parts moment, is_taken_whole ends before after number first parts moment)
