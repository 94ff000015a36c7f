-- The callers who have logged in since the start of a run.
use Rattle.std.proofs.Common.{◌≡◌, ℕ, zero, suc, true, List, [], ◌∷◌, Option, Some, subst}
use Rattle.std.specs.List.{list_any, slice_get}
use Rattle.sv_headline.specs.Start.{CallersLoggedInSinceTheStart, HaveNoSessions}
use Rattle.sv_run.specs.Contexts.{Theory}
use Rattle.sv_run.specs.Laws.{CallersLoggedIn}
use Rattle.sv_session.specs.Calls.{is_held_by}
use Rattle.sv_session.specs.Store.{Session}

none_holds : (number caller : ℕ) (sessions : List Session) → sessions ≡ [] → list_any (is_held_by number caller) sessions ≡ true → ⊥
none_holds number caller [] none holds = absurd (cc)
none_holds number caller (session ∷ sessions) none holds = absurd (cc)

module _ {Context Words : Type 0} (theory : Theory Context Words) where
  -- the context at a place has no session
  none_there : (contexts : List Context) (place : ℕ) (context : Context) → HaveNoSessions theory contexts → slice_get contexts place ≡ Some context
      → (theory.conduct.sessions_of context).sessions ≡ []
  none_there [] place context none there = absurd (cc)
  none_there (first ∷ others) zero context none there = subst (λ its. (theory.conduct.sessions_of its).sessions ≡ []) (same_first first context there) none.0
    where
      same_first : (one other : Context) → ◌≡◌ {A = Option Context} (Some one) (Some other) → one ≡ other
      same_first one other same = cc
  none_there (first ∷ others) (suc place) context none there = none_there others place context none.1 there

  pub since_the_start : CallersLoggedIn theory → CallersLoggedInSinceTheStart theory
  since_the_start law before after happenings answers place number caller none run runs holds =
      law before after happenings answers place number caller run runs
      (λ held. none_holds number caller _ (none_there before.world.contexts place held.context none held.there) held.holds) holds
