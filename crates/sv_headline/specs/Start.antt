-- Runs that begin with newly deployed contexts (Jakarta Servlet 6.0, chapter 7).
use Rattle.std.specs.Prelude.{◌≡◌, ℕ, false, List, []}
use Rattle.std.specs.List.{AllByRecursion}
use Rattle.sv_run.specs.Contexts.{Theory}
use Rattle.sv_run.specs.Events.{Happening}
use Rattle.sv_run.specs.Laws.{HoldsAt, LoggedInBefore}
use Rattle.sv_run.specs.Runs.{Answer, Run, deeds_of}
use Rattle.sv_run.specs.State.{State}

module _ {Context Words : Type 0} (theory : Theory Context Words) where
  -- no context has a session
  abbrev pub HaveNoSessions : List Context → Type 0
  HaveNoSessions contexts = AllByRecursion (λ context. (theory.conduct.sessions_of context).sessions ≡ []) contexts

  -- in a run that begins without sessions, a session holds a caller only by a login to it as that caller, which
  -- nothing has undone, until memory runs out
  abbrev pub CallersLoggedInSinceTheStart : Type 0
  CallersLoggedInSinceTheStart =
      (before after : State Context Words) (happenings : List Happening) (answers : List (Answer Context)) (place number caller : ℕ)
      → HaveNoSessions before.world.contexts → Run theory before happenings answers after → after.stopped ≡ false
      → HoldsAt theory place number caller after.world.contexts → LoggedInBefore theory place number caller (deeds_of answers)
