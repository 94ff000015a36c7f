-- Events in a state in which no session has expired.
use Rattle.std.proofs.Common.{◌≡◌, ℕ, false, List, [], None, refl, sym, ap, ◌∙◌, subst, arith}
use Rattle.sv_journal.specs.declared.entry.Entry.{Entry}
use Rattle.sv_run.specs.Contexts.{Theory}
use Rattle.sv_run.specs.Effect.{Effect, telling, joined}
use Rattle.sv_run.specs.Events.{Accepts, ExpiresAll, Happening, Happens, fault_of, moment_after, raised}
use Rattle.sv_run.specs.Lawful.{AreSettled, EndsExpired}
use Rattle.sv_run.specs.State.{State, settled_at}
use Rattle.sv_run.proofs.Taking.{settled_stay, settled_only}

-- raising the time twice is raising it once
pub raised_once : (before moment : ℕ) → raised (raised before moment) moment ≡ raised before moment
raised_once before moment = omega arith

module _ {Context Words : Type 0} (theory : Theory Context Words) (ends : EndsExpired theory) (state after : State Context Words) (happening : Happening)
    (effect : Effect Context) (same : moment_after state.moment happening ≡ state.moment) (settled : AreSettled theory state.moment state.world.contexts) where
  pub accepts_settled : state.stopped ≡ false → fault_of state.connections happening ≡ None → Happens theory state happening effect after
      → Accepts theory state happening effect after
  accepts_settled runs no_fault happens =
      record {
        runs = runs;
        no_fault = no_fault;
        told = [];
        contexts = state.world.contexts;
        expires = subst (λ m. ExpiresAll theory.conduct state.world.contexts m [] state.world.contexts) (sym same)
            (settled_stay theory ends state.world.contexts state.moment settled);
        brings = effect;
        happens = subst (λ m. Happens theory (settled_at m state.world.contexts state) happening effect after) (sym same) happens;
        is_joined = refl;
      }

  pub settled_accepts : Accepts theory state happening effect after → Happens theory state happening effect after
  settled_accepts accepts =
      let nobody = settled_only theory ends state.world.contexts accepts.contexts state.moment accepts.told settled
      (subst (λ m. ExpiresAll theory.conduct state.world.contexts m accepts.told accepts.contexts) same accepts.expires) in
      subst (λ r. Happens theory state happening r after)
      (sym (accepts.is_joined ∙ ap (λ told. joined (telling told) accepts.brings) nobody.0))
      (subst (λ cs. Happens theory (settled_at state.moment cs state) happening accepts.brings after) nobody.1
      (subst (λ m. Happens theory (settled_at m accepts.contexts state) happening accepts.brings after) same accepts.happens))

-- an event that does not raise the time
pub record AcceptsNow {Context Words : Type 0} (theory : Theory Context Words) (before : State Context Words) (happening : Happening)
    (effect : Effect Context) (after : State Context Words) : Type 0 where
  pub runs : before.stopped ≡ false
  pub no_fault : fault_of before.connections happening ≡ None
  pub told : List Entry
  pub contexts : List Context
  pub expires : ExpiresAll theory.conduct before.world.contexts before.moment told contexts
  pub brings : Effect Context
  pub happens : Happens theory (settled_at before.moment contexts before) happening brings after
  pub is_joined : effect ≡ joined (telling told) brings

module _ {Context Words : Type 0} (theory : Theory Context Words) (before after : State Context Words) (happening : Happening)
    (effect : Effect Context) (same : moment_after before.moment happening ≡ before.moment) where
  pub accepts_now : Accepts theory before happening effect after → AcceptsNow theory before happening effect after
  accepts_now accepts =
      record {
        runs = accepts.runs;
        no_fault = accepts.no_fault;
        told = accepts.told;
        contexts = accepts.contexts;
        expires = subst (λ m. ExpiresAll theory.conduct before.world.contexts m accepts.told accepts.contexts) same accepts.expires;
        brings = accepts.brings;
        happens = subst (λ m. Happens theory (settled_at m accepts.contexts before) happening accepts.brings after) same accepts.happens;
        is_joined = accepts.is_joined;
      }

  pub now_accepts : AcceptsNow theory before happening effect after → Accepts theory before happening effect after
  now_accepts accepts =
      record {
        runs = accepts.runs;
        no_fault = accepts.no_fault;
        told = accepts.told;
        contexts = accepts.contexts;
        expires = subst (λ m. ExpiresAll theory.conduct before.world.contexts m accepts.told accepts.contexts) (sym same) accepts.expires;
        brings = accepts.brings;
        happens = subst (λ m. Happens theory (settled_at m accepts.contexts before) happening accepts.brings after) (sym same) accepts.happens;
        is_joined = accepts.is_joined;
      }
