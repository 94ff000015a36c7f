-- The state after any call is reached by changing calls.
use Rattle.std.specs.Prelude.{Bool, Result, Ok, Err}
use Rattle.std.proofs.Common.{◌≡◌, List, [], ◌∷◌, ◌++◌, refl, sym, ◌∙◌, ap}
use Rattle.sv_exchange.specs.declared.exchange_fault.ExchangeFault.{ExchangeFault}
use Rattle.sv_exchange.specs.declared.exchange_fault.ExchangeFault.TheVariants as faults
use Rattle.sv_exchange.specs.Changing.{Change, IsReached, answer, left_by, after_all, Does, Reaches}
use Rattle.sv_exchange.specs.State.{State}

after_all-append : (front back : List Change) (x : State) → after_all (front ++ back) x ≡ after_all back (after_all front x)
after_all-append [] back x = refl
after_all-append (change ∷ front) back x = after_all-append front back (left_by (answer change x) change x)

-- Nothing changed.
pub reached_same : (before after : State) → after ≡ before → Reaches before after
unfolding IsReached
reached_same before after same from reached = (reached.0, same ∙ reached.1)

-- One more call.
pub reached_on : (change : Change) (before after : State) → after ≡ left_by (answer change before) change before → Reaches before after
unfolding IsReached
reached_on change before after more from reached = (
  reached.0 ++ change ∷ [],
  more ∙ (ap (λ x. left_by (answer change x) change x) reached.1 ∙ sym (after_all-append reached.0 (change ∷ []) from)),
)

-- The state that a call leaves is reached by changing calls.
pub reached_by : (change : Change) (result : Result Bool ExchangeFault) (before after : State) → Does change result before after → Reaches before after
reached_by change (Ok done) before after does =
    reached_on change before after (does.1 ∙ ap (λ said. left_by said change before) (sym does.0))
reached_by change (Err faults.NoMemory) before after does = reached_same before after does.1
reached_by change (Err faults.Committed) before after does = reached_same before after does.1
reached_by change (Err faults.TooManySessions) before after does = reached_same before after does.1
reached_by change (Err faults.SerialSpent) before after does = reached_same before after does.1
reached_by change (Err faults.NoSession) before after does = reached_same before after does.1
reached_by change (Err faults.BadHeader) before after does = reached_same before after does.1
reached_by change (Err faults.TooLarge) before after does = reached_same before after does.1

pub reaches_to : (before after : State) → Reaches before after → (changes : List Change) × (after ≡ after_all changes before)
unfolding IsReached
reaches_to before after changing = changing before ([], refl)

pub reaches_from : (before after : State) → ((changes : List Change) × (after ≡ after_all changes before)) → Reaches before after
unfolding IsReached
reaches_from before after reached from so_far = (
  so_far.0 ++ reached.0,
  reached.1 ∙ (ap (λ x. after_all reached.0 x) so_far.1 ∙ sym (after_all-append so_far.0 reached.0 from)),
)
