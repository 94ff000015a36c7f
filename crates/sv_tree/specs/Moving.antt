-- The effect of answering a request on the sessions of a context (Jakarta Servlet 6.0, chapter 7 and section 13.6.3).
use Rattle.std.specs.Prelude.{◌≡◌, List, Option}
use Rattle.sv_component.specs.Runs.{Record}
use Rattle.sv_session.specs.Runs.{MovedByComponents}
use Rattle.sv_tree.specs.Does.{Does}
use Rattle.sv_tree.specs.State.{Exchange, State}

-- The time is the same, and only components moved the sessions at that time.
pub record IsMoved (before after : Exchange) : Type 0 where
  pub moment : after.moment ≡ before.moment
  pub sessions : MovedByComponents before.moment before.store after.store

-- A program moves the sessions in this way from every state, by any calls, with or without a result.
abbrev pub MovesSessions : {A : Type 0} → Does A → Type 0
MovesSessions {A} does =
    (before after : State) (calls : List Record) (result : Option A) → does before calls after result → IsMoved before.exchange after.exchange
