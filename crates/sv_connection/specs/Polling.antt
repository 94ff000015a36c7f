-- The calls of a poller, by what they give.
use Rattle.std.specs.Prelude.{◌≡◌, ℕ, List, [], ◌∷◌, Option}
use Rattle.sv_connection.specs.declared.close_reason.Closing.{Closing}
use Rattle.sv_connection.specs.declared.poller.PollEvent.{PollEvent}
use Rattle.sv_connection.specs.declared.queries.Figures.{Figures}
use Rattle.sv_policy.specs.declared.edit.Edit.{Edit}

pub data PollerCall (S : Type 0) : Type 0 where
  -- It reports this event.
  Wait : PollEvent → PollerCall S
  -- It accepts a connection under this number and gives its stream, or none waits.
  Accept : ℕ → Option S → PollerCall S
  -- It closes the stream of the connection of this number in this way.
  Close : ℕ → S → Closing → PollerCall S
  -- It answers a query, by these figures and by a handler. The query asked for this edit of the context of this path, or
  -- for none.
  Answer : Figures → Option (List ℕ × Edit) → PollerCall S
  -- It answers a query, by only these figures.
  Status : Figures → PollerCall S

-- What a call does to a poller: the poller before it, the call, and the poller after it.
abbrev pub Polling : Type 0 → Type 0 → Type 1
Polling N S = N → PollerCall S → N → Type 0

-- These calls are made one after another.
abbrev pub AreCalled : {N S : Type 0} → Polling N S → N → List (PollerCall S) → N → Type 0
AreCalled polls before [] after = after ≡ before
AreCalled {N} polls before (call ∷ calls) after = (between : N) × polls before call between × AreCalled polls between calls after
