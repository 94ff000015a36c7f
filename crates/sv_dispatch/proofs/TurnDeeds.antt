-- Turns of a servlet, composed of parts and made one after another.
use Rattle.std.proofs.Common.{◌≡◌, inl, inr, ℕ, suc, ◌+◌, ◌-◌, ◌<◌, ◌≤◌, true, false, List, [], ◌++◌, Option, None, Some, Result, refl, sym, ap, ◌∙◌, subst, append_assoc, append-nil, arith}
use Rattle.std.proofs.lemmas.Bool.{leb-false}
use Rattle.std.specs.Prelude.{slice_index_or}
use Rattle.sv_component.specs.Runs.{Record}
use Rattle.sv_component.specs.Standing.{is_gone, standing_now}
use Rattle.sv_component.specs.declared.answers.Step.{Step}
use Rattle.sv_component.specs.declared.standing.Standing.{Standing}
use Rattle.sv_component.specs.declared.standing.Standing.TheVariants.{Serving, Gone, Away}
use Rattle.sv_dispatch.specs.Did.{Frame, lasting, seen}
use Rattle.sv_dispatch.specs.Seen.{IsHere}
use Rattle.sv_tree.specs.Asking.{asks}
use Rattle.sv_tree.specs.Does.{Does, ◌>>=◌, ◌>>◌, becomes, choose}
use Rattle.sv_tree.specs.Endings.{faults, is_away_for, is_missing}
use Rattle.sv_tree.specs.Filters.{within_limit}
use Rattle.sv_tree.specs.Laws.{count_all}
use Rattle.sv_tree.specs.Site.{Site}
use Rattle.sv_tree.specs.State.{Exchange, State, counted, is_full, standing_at}
use Rattle.sv_tree.specs.Telling.{all_told}
use Rattle.sv_tree.specs.Tree as tree
use Rattle.sv_tree.specs.Tree.{Tree, last, service_of}
use Rattle.sv_tree.specs.declared.finished.DispatchFault.TheVariants.{DispatchLimit}
use Rattle.sv_tree.specs.declared.finished.Finished.{Finished}
use Rattle.sv_tree.specs.declared.limits.TheConstants.{MAX_CALLS}
use Rattle.sv_tree.specs.declared.site.Resource.TheVariants.{Servlet}
use Rattle.sv_tree.proofs.Counting.{turn_counts}
use Rattle.sv_tree.proofs.Doing.{absurd_result, becomes_then, chosen_then}
use Rattle.sv_dispatch.proofs.Deeds.{Makes, did_by, did_first, did_last, did_not, did_other, did_see, did_then}

-- A servlet that serves is not gone.
serving_here : (moment : ℕ) (standing : Standing) → standing_now moment standing ≡ Serving → is_gone standing ≡ false
serving_here moment Serving e = refl
serving_here moment Gone e = cc
serving_here moment (Away until) e = refl

pub here_by : (place : ℕ) (state : State) (standing : Standing) → standing ≡ standing_at state.exchange.moment place state.standings → standing ≡ Serving → IsHere place state
here_by place state standing is serving = serving_here state.exchange.moment (slice_index_or state.standings place Gone) (sym is ∙ serving)

here_still : (place : ℕ) (x y : State) → y.standings ≡ x.standings → IsHere place x → IsHere place y
here_still place x y same here = subst (λ standings. is_gone (slice_index_or standings place Gone) ≡ false) (sym same) here

module _ {M : Type 0} (state : M → State) (frame : M → Frame) (ran : M → List Record → M → Type 0) where
  pub here_counted : (place : ℕ) (a b : M) → Makes state frame ran (becomes counted) a b (Some tt) → IsHere place (state a) → IsHere place (state b)
  here_counted place a b did here = here_still place (state a) (state b) (ap (λ s. s.standings) did.does_so.1) here

  pub here_asked : {A : Type 0} (listeners : ℕ) (call : Exchange → A → Exchange → Record) (place : ℕ) (a b : M) (result : Option A)
      → Makes state frame ran (asks listeners call) a b result → IsHere place (state a) → IsHere place (state b)
  here_asked listeners call place a b result did here = here_still place (state a) (state b) (ap (λ s. s.standings) did.does_so.is) here

  module _ (site : Site) (room place : ℕ) where
    abbrev Serve : ℕ → Does (Option Finished)
    Serve number = asks site.listeners (service_of place number) >>= tree.Stepped site room (Tree site room) place

    abbrev Limit : Does (Option Finished)
    Limit = last (faults site (Servlet place) DispatchLimit)

    module _ (number : ℕ) (a b : M) where
      turn_by : (known : Standing) (result : Option (Option Finished)) → standing_at (state a).exchange.moment place (state a).standings ≡ known
          → Makes state frame ran (tree.Stands site room (Tree site room) place (state a).exchange.moment known (within_limit Limit (Serve number))) a b result
          → Makes state frame ran (tree.Turn site room (Tree site room) place number) a b result
      turn_by known result is did =
          did_see state frame ran (λ s. tree.Stands site room (Tree site room) place s.exchange.moment (standing_at s.exchange.moment place s.standings) (within_limit Limit (Serve number))) a b result
          (did_by state frame ran (λ standing. tree.Stands site room (Tree site room) place (state a).exchange.moment standing (within_limit Limit (Serve number)))
          known (standing_at (state a).exchange.moment place (state a).standings) a b result (sym is) did)

      pub turn_gone : {E : Type 0} (finished : Result Finished E) (result : Result (Option Finished) E) (standing : Standing)
          → standing ≡ standing_at (state a).exchange.moment place (state a).standings → standing ≡ Gone
          → Makes state frame ran (is_missing site (Servlet place)) a b (seen finished) → result ≡ lasting finished
          → Makes state frame ran (tree.Turn site room (Tree site room) place number) a b (seen result)
      turn_gone finished result standing same is did lasts =
          subst (λ r. Makes state frame ran (tree.Turn site room (Tree site room) place number) a b (seen r)) (sym lasts)
          (turn_by Gone (seen (lasting finished)) (sym same ∙ is) (did_last state frame ran (is_missing site (Servlet place)) a b finished did))

      pub turn_away : {E : Type 0} (until left : ℕ) (finished : Result Finished E) (result : Result (Option Finished) E) (standing : Standing)
          → standing ≡ standing_at (state a).exchange.moment place (state a).standings → standing ≡ Away until → left ≡ until - (state a).exchange.moment
          → Makes state frame ran (is_away_for site (Servlet place) left) a b (seen finished) → result ≡ lasting finished
          → Makes state frame ran (tree.Turn site room (Tree site room) place number) a b (seen result)
      turn_away until left finished result standing same is rest did lasts =
          subst (λ r. Makes state frame ran (tree.Turn site room (Tree site room) place number) a b (seen r)) (sym lasts)
          (turn_by (Away until) (seen (lasting finished)) (sym same ∙ is)
          (did_last state frame ran (is_away_for site (Servlet place) (until - (state a).exchange.moment)) a b finished
          (did_by state frame ran (λ left. is_away_for site (Servlet place) left) left (until - (state a).exchange.moment) a b (seen finished) rest did)))

      limited : (result : Option (Option Finished)) → standing_at (state a).exchange.moment place (state a).standings ≡ Serving
          → Makes state frame ran (choose (is_full (state a)) Limit (becomes counted >> Serve number)) a b result
          → Makes state frame ran (tree.Turn site room (Tree site room) place number) a b result
      limited result serving did =
          turn_by Serving result serving (did_see state frame ran (λ s. choose (is_full s) Limit (becomes counted >> Serve number)) a b result did)

      pub turn_full : {E : Type 0} (finished : Result Finished E) (result : Result (Option Finished) E) (standing : Standing)
          → standing ≡ standing_at (state a).exchange.moment place (state a).standings → standing ≡ Serving → is_full (state a) ≡ true
          → Makes state frame ran (faults site (Servlet place) DispatchLimit) a b (seen finished) → result ≡ lasting finished
          → Makes state frame ran (tree.Turn site room (Tree site room) place number) a b (seen result)
      turn_full finished result standing same is full did lasts =
          subst (λ r. Makes state frame ran (tree.Turn site room (Tree site room) place number) a b (seen r)) (sym lasts)
          (limited (seen (lasting finished)) (sym same ∙ is)
          (did_first state frame ran (is_full (state a)) Limit (becomes counted >> Serve number) a b (seen (lasting finished)) full
          (did_last state frame ran (faults site (Servlet place) DispatchLimit) a b finished did)))

      pub turn_counted : (c : M) (result : Option (Option Finished)) (standing : Standing) → standing ≡ standing_at (state a).exchange.moment place (state a).standings → standing ≡ Serving
          → is_full (state a) ≡ false → Makes state frame ran (becomes counted) a c (Some tt) → Makes state frame ran (Serve number) c b result
          → Makes state frame ran (tree.Turn site room (Tree site room) place number) a b result
      turn_counted c result standing same is free count did =
          limited result (sym same ∙ is)
          (did_other state frame ran (is_full (state a)) Limit (becomes counted >> Serve number) a b result free
          (did_then state frame ran (becomes counted) (λ _. Serve number) a c b tt result count did))

    module _ (number : ℕ) (a : M) (hear : site.listeners ≡ (frame a).listeners) where
      -- The call, with the site's number of listeners.
      asked : (b : M) (result : Option Step) → Makes state frame ran (asks (frame a).listeners (service_of place number)) a b result
          → Makes state frame ran (asks site.listeners (service_of place number)) a b result
      asked b result call =
          did_by state frame ran (λ listeners. asks listeners (service_of place number)) (frame a).listeners site.listeners a b result (sym hear) call

      pub serve_not : (b : M) → Makes state frame ran (asks (frame a).listeners (service_of place number)) a b None
          → Makes state frame ran (asks site.listeners (service_of place number) >>= tree.Stepped site room (Tree site room) place) a b None
      serve_not b call =
          did_not state frame ran (asks site.listeners (service_of place number)) (tree.Stepped site room (Tree site room) place) a b (asked b None call)

      pub serve_so : (b c : M) (step : Step) (result : Option (Option Finished)) → Makes state frame ran (asks (frame a).listeners (service_of place number)) a b (Some step)
          → Makes state frame ran (tree.Stepped site room (Tree site room) place step) b c result
          → Makes state frame ran (asks site.listeners (service_of place number) >>= tree.Stepped site room (Tree site room) place) a c result
      serve_so b c step result call rest =
          did_then state frame ran (asks site.listeners (service_of place number)) (tree.Stepped site room (Tree site room) place) a b c step result
          (asked b (Some step) call) rest

    last_goes_on : {P : Type 0} (ending : Does Finished) (x y : State) (r : List Record) → last ending x r y (Some None) → P
    last_goes_on ending x y r (inl t) = some_none t.given t.goes_on.2
      where
        some_none : {P : Type 0} (value : Finished) → Some None ≡ Some (Some value) → P
        some_none value e = let same : None ≡ Some value = cc in absurd_result value same
    last_goes_on ending x y r (inr t) = absurd_result None (sym t.1)

    stands_on : {P : Type 0} (moment : ℕ) (standing : Standing) (next : Does (Option Finished)) (x y : State) (r : List Record)
        → (next x r y (Some None) → P) → tree.Stands site room (Tree site room) place moment standing next x r y (Some None) → P
    stands_on moment Serving next x y r h done = h done
    stands_on moment Gone next x y r h done = last_goes_on (is_missing site (Servlet place)) x y r done
    stands_on moment (Away until) next x y r h done = last_goes_on (is_away_for site (Servlet place) (until - moment)) x y r done

    raised : (number : ℕ) (x y : State) (r : List Record) → y.exchange.calls ≡ count_all r + x.exchange.calls → Serve number (counted x) r y (Some None) → x.exchange.calls < y.exchange.calls
    raised number x y r sum (inr t) = absurd_result None (sym t.1)
    raised number x y r sum (inl t) =
        let one : count_all r ≡ 1 + count_all (all_told site.listeners t.begins.exchange.events ++ t.back) =
        ap count_all (t.is_joined ∙ ap (λ front. front ++ t.back) t.begins.is_made) in
        let all : y.exchange.calls ≡ count_all r + x.exchange.calls = sum in
        omega arith

    -- A turn after which the servlet continues makes a call that counts.
    goes_on : (number : ℕ) (x y : State) (r : List Record) → tree.Turn site room (Tree site room) place number x r y (Some None)
        → (x.exchange.calls < MAX_CALLS) × (x.exchange.calls < y.exchange.calls)
    goes_on number x y r h =
        let kept = turn_counts site room place number x y r (Some None) h in
        stands_on x.exchange.moment (standing_at x.exchange.moment place x.standings) (within_limit Limit (Serve number)) x y r
        (λ done. chosen_then (is_full x) Limit (becomes counted >> Serve number) x y r (Some None)
        (λ _ full. last_goes_on (faults site (Servlet place) DispatchLimit) x y r full)
        (λ free made. (leb-false MAX_CALLS x.exchange.calls free, raised number x y r kept.0 (becomes_then counted (λ _. Serve number) x y r (Some None) made))) done) h

    abbrev pub ServesFrom : ℕ → State → List Record → State → Option Finished → Type 0
    ServesFrom number before calls after result = (left : ℕ) × tree.Turns site room (Tree site room) place left number before calls after result

    -- A run that completes the remaining turns completes all of them.
    pub record TurnsOn (start reached : M) (number : ℕ) : Type 0 where
      pub front : List Record
      pub completes : (made : List Record) (after : State) (result : Option Finished) → ServesFrom number (state reached) made after result
          → ServesFrom 0 (state start) (front ++ made) after result
      pub runs : (from : M) (done : List Record) → ran from done start → ran from (done ++ front) reached
      pub stays : frame reached ≡ frame start
      pub counts : number ≤ (state reached).exchange.calls
      pub few : number ≤ MAX_CALLS

    pub turns_begin : (start : M) → TurnsOn start start 0
    turns_begin start = record {
      front = [];
      completes = λ made after result h. h;
      runs = λ from done so_far. subst (λ calls. ran from calls start) (sym (append-nil done)) so_far;
      stays = refl;
      counts = omega arith;
      few = omega arith;
    }

    -- The number of remaining calls decreases with each turn.
    pub calls_fall : (reached next : M) (number : ℕ) → Makes state frame ran (tree.Turn site room (Tree site room) place number) reached next (Some None)
        → ((state reached).exchange.calls < MAX_CALLS) × (MAX_CALLS - (state next).exchange.calls < MAX_CALLS - (state reached).exchange.calls)
    calls_fall reached next number did =
        let on = goes_on number (state reached) (state next) did.made did.does_so in
        let below : (state reached).exchange.calls < MAX_CALLS = on.0 in
        let above : (state reached).exchange.calls < (state next).exchange.calls = on.1 in
        (below, omega (arith, below, above))

    pub turns_go_on : (start reached next : M) (number : ℕ) → TurnsOn start reached number
        → Makes state frame ran (tree.Turn site room (Tree site room) place number) reached next (Some None) → TurnsOn start next (suc number)
    turns_go_on start reached next number kept did =
        let on = goes_on number (state reached) (state next) did.made did.does_so in
        let below : (state reached).exchange.calls < MAX_CALLS = on.0 in
        let above : (state reached).exchange.calls < (state next).exchange.calls = on.1 in
        let so_many : number ≤ (state reached).exchange.calls = kept.counts in
        record {
          front = kept.front ++ did.made;
          completes = λ made after result rest.
              subst (λ calls. ServesFrom 0 (state start) calls after result) (sym (append_assoc kept.front did.made made))
              (kept.completes (did.made ++ made) after result
              (suc rest.0, inl record { given = None; between = state next; front = did.made; back = made; begins = did.does_so; goes_on = rest.1; is_joined = refl }));
          runs = λ from done so_far. subst (λ calls. ran from calls next) (append_assoc done kept.front did.made) (did.runs from (done ++ kept.front) (kept.runs from done so_far));
          stays = did.stays ∙ kept.stays;
          counts = omega (arith, so_many, above);
          few = omega (arith, so_many, below);
        }

    pub turns_end : (start reached next : M) (number : ℕ) (result : Finished) → TurnsOn start reached number
        → Makes state frame ran (tree.Turn site room (Tree site room) place number) reached next (Some (Some result))
        → Makes state frame ran (tree.Serves site room (Tree site room) place) start next (Some result)
    turns_end start reached next number result kept did = record {
      made = kept.front ++ (did.made ++ []);
      does_so = kept.completes (did.made ++ []) (state next) (Some result)
          (1, inl record { given = Some result; between = state next; front = did.made; back = []; begins = did.does_so; goes_on = (refl, refl, refl); is_joined = refl });
      runs = λ from done so_far.
          subst (λ calls. ran from (done ++ (kept.front ++ calls)) next) (sym (append-nil did.made))
          (subst (λ calls. ran from calls next) (append_assoc done kept.front did.made) (did.runs from (done ++ kept.front) (kept.runs from done so_far)));
      stays = did.stays ∙ kept.stays;
    }

    pub turns_break : (start reached next : M) (number : ℕ) → TurnsOn start reached number
        → Makes state frame ran (tree.Turn site room (Tree site room) place number) reached next None
        → Makes state frame ran (tree.Serves site room (Tree site room) place) start next None
    turns_break start reached next number kept did = record {
      made = kept.front ++ did.made;
      does_so = kept.completes did.made (state next) None (1, inr (did.does_so, refl));
      runs = λ from done so_far. subst (λ calls. ran from calls next) (append_assoc done kept.front did.made) (did.runs from (done ++ kept.front) (kept.runs from done so_far));
      stays = did.stays ∙ ap {A = Frame} (λ frame. record frame { whole = false }) kept.stays;
    }
