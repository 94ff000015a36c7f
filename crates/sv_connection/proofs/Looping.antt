-- One step of the event loop after another.
use Rattle.std.proofs.Common.{◌≡◌, ◌≢◌, ℕ, Bool, true, false, nat_eq, eqb-true, inl, List, [], ◌∷◌, ◌++◌, Result, Ok, Err, length, refl, sym, ap, ◌∙◌, subst, flat_map, map, append_assoc, append-nil}
use Rattle.std.proofs.lemmas.Bool.{cond-true, cond-false}
use Rattle.std.proofs.lemmas.List.{map-append}
use Rattle.std.specs.List.{AllByRecursion}
use Rattle.std.specs.Prelude.{IsErrAnd, OnOk}
use Rattle.sv_connection.specs.Counting.{Counts, CountsAction}
use Rattle.sv_connection.specs.Course.{Along}
use Rattle.sv_connection.specs.Holding.{IsWithin, StaysWithin}
use Rattle.sv_connection.specs.Known.{most_open, place_in}
use Rattle.sv_connection.specs.Loops.{Goes}
use Rattle.sv_connection.specs.Notes.{Note, Of, Went, actions_of, poll_of, poller_calls}
use Rattle.sv_connection.specs.Polling.{AreCalled, PollerCall, Polling}
use Rattle.sv_connection.specs.Rounds.{IsOfConnections, Moves, Settles}
use Rattle.sv_connection.specs.Slots.{Accepted, Accepts, Action, Arms, Blocks, Hands, Leads, Open, Over, Reads, Unused, Writes}
use Rattle.sv_connection.specs.States.{ConnectionState}
use Rattle.sv_connection.specs.Ways.{Ways}
use Rattle.sv_connection.specs.declared.event_loop.EventLoop.{EventLoop}
use Rattle.sv_run.specs.Reacting.{Reacting}
use Rattle.sv_run.specs.declared.step_fault.StepFault.{StepFault}
use Rattle.sv_run.specs.declared.step_fault.StepFault.TheVariants.{NoMemory}
use Rattle.sv_connection.proofs.AloneLemmas.{all_join}
use Rattle.sv_connection.proofs.Joining.{counts_join, goes_join}
use Rattle.sv_connection.proofs.LawLemmas.{no_unused, over_stays}
use Rattle.sv_connection.proofs.Placing.{other_number, same_number}
use Rattle.sv_wire.specs.declared.inbox.Awaited.{Awaited}

-- A result that `?` returns.
pub refused_as : {A : Type 0} (fault : StepFault) (result : Result A StepFault) → IsErrAnd result (λ e. e ≡ fault) → result ≡ Err fault
refused_as fault (Ok done) is = absurd is
refused_as fault (Err e) is = ap Err is

module _ {S : Type 0} where
  actions_same : (number : ℕ) (actions : List (Action S)) → actions_of number (map (Of number) actions) ≡ actions
  actions_same number [] = refl
  actions_same number (action ∷ actions) =
      ap (λ first. first ++ actions_of number (map (Of number) actions)) (cond-true (nat_eq number number) (action ∷ []) [] (same_number number))
      ∙ ap (λ rest. action ∷ rest) (actions_same number actions)

  actions_other : (number other : ℕ) (actions : List (Action S)) → other ≢ number → actions_of other (map (Of number) actions) ≡ []
  actions_other number other [] apart = refl
  actions_other number other (action ∷ actions) apart =
      ap (λ first. first ++ actions_of other (map (Of number) actions)) (cond-false (nat_eq other number) (action ∷ []) [] (other_number number other apart))
      ∙ actions_other number other actions apart

  calls_same : (number : ℕ) (actions : List (Action S)) → poller_calls (map (Of number) actions) ≡ flat_map (poll_of number) actions
  calls_same number [] = refl
  calls_same number (action ∷ actions) = ap (λ rest. poll_of number action ++ rest) (calls_same number actions)

module _ {S : Type 0} (ways : Ways S) where
  pub not_accepted : (b : ConnectionState S) (action : Action S) (s : S) → Leads ways (Open b) action (Accepted s) → ⊥
  not_accepted b (Accepts stream) s leads = absurd leads
  not_accepted b action s leads = absurd leads

  not_over : (actions : List (Action S)) (b : ConnectionState S) → Along ways Over actions (Open b) → ⊥
  not_over actions b later = let no : Open b ≡ Over = (over_stays ways actions (Open b) later).1 in absurd (cc)

  step_silent : (number : ℕ) (action : Action S) (at b : ConnectionState S) (rest : List (PollerCall S)) → Leads ways (Open at) action (Open b) → rest ≡ []
      → poll_of number action ++ rest ≡ []
  step_silent number (Reads bytes) at b rest leads is = is
  step_silent number (Hands bytes moment reaction awaited) at b rest leads is = is
  step_silent number (Writes bytes) at b rest leads is = is
  step_silent number Blocks at b rest leads is = is
  step_silent number Arms at b rest leads is = is
  step_silent number action at b rest leads is = absurd leads

  -- While a connection stays open, nothing is asked of the poller for it.
  pub open_silent : (number : ℕ) (actions : List (Action S)) (at b : ConnectionState S) → Along ways (Open at) actions (Open b) → flat_map (poll_of number) actions ≡ []
  open_silent number [] at b is = refl
  open_silent number (action ∷ actions) at b (Open c, leads, later) =
      step_silent number action at c (flat_map (poll_of number) actions) leads (open_silent number actions c b later)
  open_silent number (action ∷ actions) at b (Unused, leads, later) = absurd (no_unused ways (Open at) action leads)
  open_silent number (action ∷ actions) at b (Accepted s, leads, later) = absurd (not_accepted at action s leads)
  open_silent number (action ∷ actions) at b (Over, leads, later) = absurd (not_over actions b later)

  step_of : (number : ℕ) (action : Action S) (at b : ConnectionState S) → Leads ways (Open at) action (Open b) → IsOfConnections (Of number action)
  step_of number (Reads bytes) at b leads = tt
  step_of number (Hands bytes moment reaction awaited) at b leads = tt
  step_of number (Writes bytes) at b leads = tt
  step_of number Blocks at b leads = tt
  step_of number Arms at b leads = tt
  step_of number action at b leads = absurd leads

  pub open_notes : (number : ℕ) (actions : List (Action S)) (at b : ConnectionState S) → Along ways (Open at) actions (Open b)
      → AllByRecursion IsOfConnections (map (Of number) actions)
  open_notes number [] at b is = tt
  open_notes number (action ∷ actions) at b (Open c, leads, later) = (step_of number action at c leads, open_notes number actions c b later)
  open_notes number (action ∷ actions) at b (Unused, leads, later) = absurd (no_unused ways (Open at) action leads)
  open_notes number (action ∷ actions) at b (Accepted s, leads, later) = absurd (not_accepted at action s leads)
  open_notes number (action ∷ actions) at b (Over, leads, later) = absurd (not_over actions b later)

  step_counts : (most count : ℕ) (action : Action S) (at b : ConnectionState S) → Leads ways (Open at) action (Open b) → CountsAction most count action count
  step_counts most count (Reads bytes) at b leads = refl
  step_counts most count (Hands bytes moment reaction awaited) at b leads = refl
  step_counts most count (Writes bytes) at b leads = refl
  step_counts most count Blocks at b leads = refl
  step_counts most count Arms at b leads = refl
  step_counts most count action at b leads = absurd leads

  -- While a connection stays open, no other is opened or closed.
  pub open_counts : (number most count : ℕ) (actions : List (Action S)) (at b : ConnectionState S) → Along ways (Open at) actions (Open b)
      → Counts most count (map (Of number) actions) count
  open_counts number most count [] at b is = refl
  open_counts number most count (action ∷ actions) at b (Open c, leads, later) =
      (count, step_counts most count action at c leads, open_counts number most count actions c b later)
  open_counts number most count (action ∷ actions) at b (Unused, leads, later) = absurd (no_unused ways (Open at) action leads)
  open_counts number most count (action ∷ actions) at b (Accepted s, leads, later) = absurd (not_accepted at action s leads)
  open_counts number most count (action ∷ actions) at b (Over, leads, later) = absurd (not_over actions b later)

  -- Then another action follows.
  pub last_counts : (number most count after : ℕ) (actions : List (Action S)) (last : Action S) (at b : ConnectionState S) → Along ways (Open at) actions (Open b)
      → CountsAction most count last after → Counts most count (map (Of number) (actions ++ last ∷ [])) after
  last_counts number most count after actions last at b along counts =
      let N : List (Note S) → Type 0 = λ notes. Counts most count notes after in
      subst N (sym (map-append (Of number) actions (last ∷ [])))
      (counts_join most count count after (map (Of number) actions) (Of number last ∷ []) (open_counts number most count actions at b along) (after, counts, refl))

module _ {R N C S : Type 0} (ways : Ways S) (steps : Reacting R) (awaits : R → ℕ → Awaited) (tells : C → ℕ → C → Type 0) (polls : Polling N S) where
  pub goes_none : (loop : EventLoop R N C S) → Goes ways steps awaits tells polls loop [] loop
  goes_none loop = record { went = record { takes = refl; told = refl }; polled = refl; courses = λ number. refl; limits = refl; counts = refl }

  -- Actions of only one number.
  pub goes_by : (number : ℕ) (before after : EventLoop R N C S) (actions : List (Action S))
      → Went steps awaits tells before.handler before.clock (map (Of number) actions) after.handler after.clock
      → Along ways (place_in before.table number) actions (place_in after.table number)
      → AreCalled polls before.poller (flat_map (poll_of number) actions) after.poller
      → ((other : ℕ) → other ≢ number → place_in after.table other ≡ place_in before.table other) → after.table.limits ≡ before.table.limits
      → Counts (most_open before.table.limits) (length before.table.entries) (map (Of number) actions) (length after.table.entries)
      → Goes ways steps awaits tells polls before (map (Of number) actions) after
  goes_by number before after actions went along called others limited counted =
      let A : List (PollerCall S) → Type 0 = λ calls. AreCalled polls before.poller calls after.poller in
      record {
        went = went;
        polled = subst A (sym (calls_same number actions)) called;
        courses = λ other. by other (nat_eq other number) refl;
        limits = limited;
        counts = counted;
      }
    where
      differ : (other : ℕ) → nat_eq other number ≡ false → other ≡ number → ⊥
      differ other is same = let P : ℕ → Type 0 = λ n. nat_eq n number ≡ false in absurd (cc (subst P same is, same_number number))

      by : (other : ℕ) (b : Bool) → nat_eq other number ≡ b → Along ways (place_in before.table other) (actions_of other (map (Of number) actions)) (place_in after.table other)
      by other true is =
          let same : other ≡ number = eqb-true other number is in
          let P : ℕ → Type 0 = λ n. Along ways (place_in before.table n) (actions_of n (map (Of number) actions)) (place_in after.table n) in
          let Q : List (Action S) → Type 0 = λ ds. Along ways (place_in before.table number) ds (place_in after.table number) in
          subst P (sym same) (subst Q (sym (actions_same number actions)) along)
      by other false is =
          let apart : other ≢ number = λ same. differ other is same in
          let Q : List (Action S) → Type 0 = λ ds. Along ways (place_in before.table other) ds (place_in after.table other) in
          subst Q (sym (actions_other number other actions apart)) (others other apart)

  -- No note follows.
  pub none_last : (before after : EventLoop R N C S) (notes : List (Note S)) → Goes ways steps awaits tells polls before notes after
      → Goes ways steps awaits tells polls before (notes ++ []) after
  none_last before after notes goes =
      let P : List (Note S) → Type 0 = λ all. Goes ways steps awaits tells polls before all after in subst P (sym (append-nil notes)) goes

  pub moves_none : {A : Type 0} (done : A) (loop : EventLoop R N C S) → Moves ways steps awaits tells polls loop (Ok done) loop
  moves_none done loop = ([], tt, goes_none loop, λ rest. rest)

  pub moves_join : {A B : Type 0} (done : A) (before between after : EventLoop R N C S) → Moves ways steps awaits tells polls before (Ok done) between
      → (result : Result B StepFault) → Moves ways steps awaits tells polls between result after → Moves ways steps awaits tells polls before result after
  moves_join done before between after (notes, of, goes, rests) (Ok last) (more, of_more, goes_on, rests_on) = (
    notes ++ more,
    all_join IsOfConnections notes more of of_more,
    goes_join ways steps awaits tells polls before between after notes more goes goes_on,
    λ at_rest. rests_on (rests at_rest),
  )
  moves_join done before between after (notes, of, goes, rests) (Err fault) (more, last, middle, of_more, goes_on, fails) =
      let P : List (Note S) → Type 0 = λ all. Goes ways steps awaits tells polls before all middle in (
        notes ++ more,
        last,
        middle,
        all_join IsOfConnections notes more of of_more,
        subst P (sym (append_assoc notes more last)) (goes_join ways steps awaits tells polls before between middle notes (more ++ last) goes goes_on),
        fails,
      )

  -- The fault of moves, as `?` returns it.
  pub moves_as : {B D : Type 0} (before after : EventLoop R N C S) (other : Result D StepFault) (fault : StepFault) → other ≡ Err fault
      → (result : Result B StepFault) → IsErrAnd result (λ e. e ≡ fault)
      → Moves ways steps awaits tells polls before other after → Moves ways steps awaits tells polls before result after
  moves_as {B = B} {D = D} before after other fault is result same moves =
      let P : Result B StepFault → Type 0 = λ r. Moves ways steps awaits tells polls before r after in
      let Q : Result D StepFault → Type 0 = λ r. Moves ways steps awaits tells polls before r after in
      let failed : Moves ways steps awaits tells polls {A = B} before (Err fault) after = subst Q is moves in
      subst P (sym (refused_as fault result same)) failed

  -- The fault of later moves, as `?` returns it.
  pub moves_broken : {A B D : Type 0} (done : A) (before between after : EventLoop R N C S) → Moves ways steps awaits tells polls before (Ok done) between
      → (other : Result D StepFault) (fault : StepFault) → other ≡ Err fault → (result : Result B StepFault) → IsErrAnd result (λ e. e ≡ fault)
      → Moves ways steps awaits tells polls between other after → Moves ways steps awaits tells polls before result after
  moves_broken {B = B} done before between after first other fault is result same later =
      moves_join {B = B} done before between after first result (moves_as between after other fault is result same later)

  -- Memory ran out after moves.
  pub starved : {A : Type 0} (B : Type 0) (done : A) (before after : EventLoop R N C S) → Moves ways steps awaits tells polls before (Ok done) after
      → Moves ways steps awaits tells polls {A = B} before (Err NoMemory) after
  starved B done before after (notes, of, goes, rests) = (notes, [], after, of, none_last before after notes goes, inl (refl, refl, refl))

  -- ---- The same, within the limit of what connections hold

  pub settles_none : {A : Type 0} (done : A) (loop : EventLoop R N C S) → Settles ways steps awaits tells polls loop (Ok done) loop
  settles_none done loop = (moves_none done loop, λ within. within)

  pub settles_same : {A : Type 0} (done : A) (loop after : EventLoop R N C S) → after ≡ loop → Settles ways steps awaits tells polls loop (Ok done) after
  settles_same done loop after same =
      let P : EventLoop R N C S → Type 0 = λ l. Settles ways steps awaits tells polls loop (Ok done) l in subst P (sym same) (settles_none done loop)

  pub settles_moves : {A : Type 0} (before after : EventLoop R N C S) (result : Result A StepFault) → Settles ways steps awaits tells polls before result after → Moves ways steps awaits tells polls before result after
  settles_moves before after (Ok done) (moves, within) = moves
  settles_moves before after (Err fault) moves = moves

  pub settles_join : {A B : Type 0} (done : A) (before between after : EventLoop R N C S) → Settles ways steps awaits tells polls before (Ok done) between
      → (result : Result B StepFault) → Settles ways steps awaits tells polls between result after → Settles ways steps awaits tells polls before result after
  settles_join done before between after (moves, within) (Ok last) (moves_on, within_on) =
      (moves_join done before between after moves (Ok last) moves_on, λ is. within_on (within is))
  settles_join {B = B} done before between after (moves, within) (Err fault) fails = moves_join {B = B} done before between after moves (Err fault) fails

  pub settles_as : {B D : Type 0} (before after : EventLoop R N C S) (other : Result D StepFault) (fault : StepFault) → other ≡ Err fault
      → (result : Result B StepFault) → IsErrAnd result (λ e. e ≡ fault) → Settles ways steps awaits tells polls before other after → Settles ways steps awaits tells polls before result after
  settles_as {B = B} {D = D} before after other fault is result same settles =
      let P : Result B StepFault → Type 0 = λ r. Settles ways steps awaits tells polls before r after in
      let Q : Result D StepFault → Type 0 = λ r. Settles ways steps awaits tells polls before r after in
      let failed : Settles ways steps awaits tells polls {A = B} before (Err fault) after = subst Q is settles in
      subst P (sym (refused_as fault result same)) failed

  pub settles_broken : {A B D : Type 0} (done : A) (before between after : EventLoop R N C S) → Settles ways steps awaits tells polls before (Ok done) between
      → (other : Result D StepFault) (fault : StepFault) → other ≡ Err fault → (result : Result B StepFault) → IsErrAnd result (λ e. e ≡ fault)
      → Settles ways steps awaits tells polls between other after → Settles ways steps awaits tells polls before result after
  settles_broken {B = B} done before between after first other fault is result same later =
      settles_join {B = B} done before between after first result (settles_as between after other fault is result same later)

  -- The fault of moves, as `?` returns it.
  pub settles_failed : {B D : Type 0} (before after : EventLoop R N C S) (other : Result D StepFault) (fault : StepFault) → other ≡ Err fault
      → (result : Result B StepFault) → IsErrAnd result (λ e. e ≡ fault) → Moves ways steps awaits tells polls before other after → Settles ways steps awaits tells polls before result after
  settles_failed {B = B} {D = D} before after other fault is result same moves =
      let P : Result B StepFault → Type 0 = λ r. Settles ways steps awaits tells polls before r after in
      let Q : Result D StepFault → Type 0 = λ r. Moves ways steps awaits tells polls before r after in
      let failed : Settles ways steps awaits tells polls {A = B} before (Err fault) after = subst Q is moves in
      subst P (sym (refused_as fault result same)) failed

  -- A connection was served that holds no more than before.
  pub no_more : {A B : Type 0} (done : A) (last : B) (before after : EventLoop R N C S) → Moves ways steps awaits tells polls before (Ok done) after → StaysWithin before.table after.table
      → Settles ways steps awaits tells polls before (Ok last) after
  no_more done last before after moves within = (moves, within)

  -- A connection was served, and then all hold no more than they may.
  pub eased : {A B : Type 0} (done : A) (before between after : EventLoop R N C S) → Moves ways steps awaits tells polls before (Ok done) between
      → (result : Result B StepFault) → Moves ways steps awaits tells polls between result after → OnOk result (IsWithin after.table) → Settles ways steps awaits tells polls before result after
  eased done before between after moves (Ok last) moves_on within = (moves_join done before between after moves (Ok last) moves_on, λ is. within)
  eased {B = B} done before between after moves (Err fault) fails within = moves_join {B = B} done before between after moves (Err fault) fails
