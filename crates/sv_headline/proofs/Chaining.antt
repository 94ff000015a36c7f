-- Chains of containers.
use Rattle.std.proofs.Common.{◌≡◌, ◌≢◌, ℕ, ◌+◌, ◌≤◌, List, [], ◌∷◌, ◌++◌, Option, None, Some, refl, sym, ap, ◌∙◌, subst, inl, inr, slice_get, arith}
use Rattle.std.specs.List.{AllPairs}
use Rattle.sv_component.specs.Steps.{ComponentSteps}
use Rattle.sv_context.specs.State.{ContextState}
use Rattle.sv_context.specs.Theory.{theory}
use Rattle.sv_headline.specs.Chains.{AreIdsOf, CallersOfAChainHaveLoggedIn, EachLivesLawfully, Follows, HasRun, IsChain, IsStarted, Life, NoIdOfAChainIsGivenTwice, contexts_left}
use Rattle.sv_headline.specs.Record.{EveryRunIsLawful}
use Rattle.sv_headline.specs.Restarts.{CallersGoOn, ComesFrom, ContextsGoOn, GoesOnFrom, HeldIt, IsNew}
use Rattle.sv_headline.proofs.Restarting.{are_new, none_held}
use Rattle.sv_run.specs.Laws.{CallersStayOrLogIn, HoldsAt, SessionsChange, SessionsChangeByCalls}
use Rattle.sv_run.specs.State.{State}
use Rattle.sv_session.specs.Calls.{HoldsCaller}
use Rattle.sv_session.specs.Laws.{AreOfSerials, EachIdHasTheNextSerial, IdsOfSerialsDiffer}
use Rattle.sv_session.specs.Runs.{Call, ChangedByCalls, ids_given, left_after}
use Rattle.sv_session.specs.Store.{Store}
use Rattle.sv_session.specs.declared.limits.TheConstants.{GREATEST_SERIAL}

-- The ids of successive serials.
both_serials : (serial between last : ℕ) (ids more : List (List ℕ)) → AreOfSerials serial between ids → AreOfSerials between last more
    → AreOfSerials serial last (ids ++ more)
both_serials serial between last [] more one other = subst (λ from. AreOfSerials from last more) one other
both_serials serial between last (id ∷ ids) more one other = (one.0, one.1, one.2, both_serials (serial + 1) between last ids more one.3 other)

-- The last serial is none above the greatest.
fits_last : (serial last : ℕ) (ids : List (List ℕ)) → serial ≤ GREATEST_SERIAL → AreOfSerials serial last ids → last ≤ GREATEST_SERIAL
fits_last serial last [] fits are = omega (arith, fits, are)
fits_last serial last (id ∷ ids) fits are = fits_last (serial + 1) last ids are.2 are.3

nothing_there : {A X : Type 0} (place : ℕ) (item : A) → slice_get [] place ≡ Some item → X
nothing_there place item there = absurd (cc)

module _ {S F L W : Type 0} (moving : ComponentSteps S F L) (draws : W → ℕ × ℕ → W → Type 0) where
  pub each_lives_lawfully : EveryRunIsLawful moving draws → EachLivesLawfully moving draws
  each_lives_lawfully law [] chain = tt
  each_lives_lawfully law (life ∷ []) chain = (law life.first life.last life.happenings life.answers chain.0.run chain.0.runs, tt)
  each_lives_lawfully law (life ∷ earlier ∷ lives) chain =
      (law life.first life.last life.happenings life.answers chain.0.run chain.0.runs, each_lives_lawfully law (earlier ∷ lives) chain.2)

  -- The contexts of a container that is started are new.
  new_first : (life : Life S F L W) → IsStarted moving draws life → (place : ℕ) (context : ContextState S F L)
      → slice_get life.first.world.contexts place ≡ Some context → IsNew context
  new_first life started place context there =
      are_new moving life.deployments started.noted started.starts.0 started.noted_after started.starts.1 place context
      (sym (ap (λ (at : State (ContextState S F L) W). slice_get at.world.contexts place) (started.first ∙ started.starts.3)) ∙ there)

  -- The contexts of a container that resumes come from those of the one before.
  from_earlier : ContextsGoOn moving W → (earlier life : Life S F L W) → Follows moving draws earlier life → (place : ℕ) (context : ContextState S F L)
      → slice_get life.first.world.contexts place ≡ Some context → ComesFrom context earlier.last.world.contexts
  from_earlier law earlier life follows place context there =
      law earlier.last follows.parts follows.suspension follows.stopped follows.hands_over life.deployments follows.words follows.left follows.noted
      follows.noted_after follows.container follows.resumes place context
      (sym (ap (λ (at : State (ContextState S F L) W). slice_get at.world.contexts place) follows.first) ∙ there)

  held_earlier : CallersGoOn moving W → (earlier life : Life S F L W) → Follows moving draws earlier life → (place number caller : ℕ) (context : ContextState S F L)
      → slice_get life.first.world.contexts place ≡ Some context → HoldsCaller number caller context.store
      → HeldIt context number caller earlier.last.world.contexts
  held_earlier law earlier life follows place number caller context there held =
      law earlier.last follows.parts follows.suspension follows.stopped follows.hands_over life.deployments follows.words follows.left follows.noted
      follows.noted_after follows.container follows.resumes place number caller context
      (sym (ap (λ (at : State (ContextState S F L) W). slice_get at.world.contexts place) follows.first) ∙ there) held

  pub callers_have_logged_in : CallersStayOrLogIn (theory moving draws) → CallersGoOn moving W → CallersOfAChainHaveLoggedIn moving draws
  callers_have_logged_in stay go_on [] chain place number caller holds = nothing_there place holds.context holds.there
  callers_have_logged_in stay go_on (life ∷ []) chain place number caller holds =
      elim (stay life.first life.last life.happenings life.answers place number caller chain.0.run chain.0.runs holds) [
        | inr logged ↦ inl logged
        | inl held ↦ absurd (none_held number caller held.0.context (new_first life chain.1 place held.0.context held.0.there) held.0.holds)
      ]
  callers_have_logged_in stay go_on (life ∷ earlier ∷ lives) chain place number caller holds =
      elim (stay life.first life.last life.happenings life.answers place number caller chain.0.run chain.0.runs holds) [
        | inr logged ↦ inl logged
        | inl held ↦
            let was = held_earlier go_on earlier life chain.1 place number caller held.0.context held.0.there held.0.holds in
            inr (
              held.1,
              held.0.context,
              held.0.there,
              was,
              callers_have_logged_in stay go_on (earlier ∷ lives) chain.2 was.place number was.old
                  (record { context = was.before; there = was.there; holds = was.held }),
            )
      ]

  -- ---- the ids
  -- The ids of a context are of the serials that it has used.
  ids_have_serials : EachIdHasTheNextSerial → (lives : List (Life S F L W)) (place : ℕ) (ids : List (List ℕ)) (context : ContextState S F L)
      → AreIdsOf moving draws place ids lives → slice_get (contexts_left lives) place ≡ Some context → AreOfSerials 0 context.store.serial ids
  ids_have_serials law [] place ids context are there = absurd are
  ids_have_serials law (life ∷ lives) place ids context (first, last, calls, begins, ends, changed, which) there =
      let same : last ≡ context = same_one last context (sym ends ∙ there) in
      let behind : ℕ → Type 0 = λ serial. AreOfSerials serial context.store.serial (ids_given calls first.store) in
      let own : first.store.serial ≤ GREATEST_SERIAL → AreOfSerials first.store.serial context.store.serial (ids_given calls first.store) = λ fits.
      subst (λ (store : Store). AreOfSerials first.store.serial store.serial (ids_given calls first.store))
      (sym changed ∙ ap (λ (one : ContextState S F L). one.store) same) (law calls first.store fits) in
      elim which [
        | inl new ↦
            subst (AreOfSerials 0 context.store.serial) (sym new.1) (subst behind new.0 (own (omega (arith, new.0))))
        | inr from ↦
            let earlier = ids_have_serials law lives from.0 from.2 from.1 from.5 from.3 in
            let fits = fits_last 0 from.1.store.serial from.2 (omega arith) earlier in
            subst (AreOfSerials 0 context.store.serial) (sym from.6)
            (both_serials 0 from.1.store.serial context.store.serial from.2 (ids_given calls first.store) earlier
            (subst behind from.4 (own (omega (arith, fits, from.4)))))
      ]
    where
      same_one : (one other : ContextState S F L) → ◌≡◌ {A = Option (ContextState S F L)} (Some one) (Some other) → one ≡ other
      same_one one other same = cc

  -- The context at a place was there at first.
  abbrev Was : Life S F L W → ℕ → ContextState S F L → Option (ContextState S F L) → Type 0
  Was life place context there =
      (first : ContextState S F L) × (there ≡ Some first) × ChangedByCalls first.store context.store

  was_there : (life : Life S F L W) (place : ℕ) (context : ContextState S F L) (there after : Option (ContextState S F L))
      → SessionsChange (theory moving draws) there after → after ≡ Some context → Was life place context there
  was_there life place context None after changes is = absurd (none_is context (sym changes ∙ is))
    where
      none_is : (one : ContextState S F L) → ◌≡◌ {A = Option (ContextState S F L)} None (Some one) → ⊥
      none_is one same = absurd (cc)
  was_there life place context (Some first) after changes is =
      (first, refl, subst (λ (one : ContextState S F L). ChangedByCalls first.store one.store) (same_one changes.0 context (sym changes.1 ∙ is)) changes.2)
    where
      same_one : (one other : ContextState S F L) → ◌≡◌ {A = Option (ContextState S F L)} (Some one) (Some other) → one ≡ other
      same_one one other same = cc

  -- A context of a chain has ids.
  pub have_ids : SessionsChangeByCalls (theory moving draws) → ContextsGoOn moving W → (lives : List (Life S F L W)) → IsChain moving draws lives
      → (place : ℕ) (context : ContextState S F L) → slice_get (contexts_left lives) place ≡ Some context
      → (ids : List (List ℕ)) × AreIdsOf moving draws place ids lives
  have_ids change go_on [] chain place context there = nothing_there place context there
  have_ids change go_on (life ∷ []) chain place context there =
      let was = was_there life place context (slice_get life.first.world.contexts place) (slice_get life.last.world.contexts place)
      (change life.first life.last life.happenings life.answers place chain.0.run chain.0.runs) there in
      let new = new_first life chain.1 place was.0 was.1 in (
        ids_given was.2.0 was.0.store,
        (was.0, context, was.2.0, was.1, there, was.2.1, inl (ap (λ (store : Store). store.serial) new.store, refl)),
      )
  have_ids change go_on (life ∷ earlier ∷ lives) chain place context there =
      let was = was_there life place context (slice_get life.first.world.contexts place) (slice_get life.last.world.contexts place)
      (change life.first life.last life.happenings life.answers place chain.0.run chain.0.runs) there in
      elim (from_earlier go_on earlier life chain.1 place was.0 was.1) [
        | inl new ↦ (
          ids_given was.2.0 was.0.store,
          (was.0, context, was.2.0, was.1, there, was.2.1, inl (ap (λ (store : Store). store.serial) new.store, refl)),
        )
        | inr from ↦
            let before = have_ids change go_on (earlier ∷ lives) chain.2 from.0 from.1 from.2 in (
              before.0 ++ ids_given was.2.0 was.0.store,
              (was.0, context, was.2.0, was.1, there, was.2.1, inr (from.0, from.1, before.0, from.2, ap (λ (store : Store). store.serial) from.3.store, before.1, refl)),
            )
      ]

  pub no_id_is_given_twice : SessionsChangeByCalls (theory moving draws) → ContextsGoOn moving W → EachIdHasTheNextSerial → IdsOfSerialsDiffer
      → NoIdOfAChainIsGivenTwice moving draws
  no_id_is_given_twice change go_on next differ = record {
    are = have_ids change go_on;
    differ = λ lives place ids are. by_life lives place ids are;
  }
    where
      by_life : (lives : List (Life S F L W)) (place : ℕ) (ids : List (List ℕ)) → AreIdsOf moving draws place ids lives → AllPairs (λ a b. a ≢ b) ids
      by_life [] place ids are = absurd are
      by_life (life ∷ lives) place ids are =
          differ 0 are.1.store.serial ids (ids_have_serials next (life ∷ lives) place ids are.1 are are.4)
