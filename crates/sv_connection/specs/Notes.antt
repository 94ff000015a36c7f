-- What the event loop does, one note after another.
use Rattle.std.specs.Prelude.{◌≡◌, ℕ, List, [], ◌∷◌, Option, None, Some, cond, flat_map, map, nat_eq, Result, Ok}
use Rattle.sv_connection.specs.Connection.{AreTold}
use Rattle.sv_connection.specs.Course.{Along}
use Rattle.sv_connection.specs.Polling.{Accept, Answer, Close, PollerCall, Status, Wait}
use Rattle.sv_connection.specs.Slots.{Accepts, Action, Closes, Ends, EndsUntold, Hands, Opens, Slot, TurnsAway}
use Rattle.sv_connection.specs.Turns.{over_event}
use Rattle.sv_connection.specs.Ways.{Ways}
use Rattle.sv_connection.specs.declared.close_reason.CloseReason.{CloseReason}
use Rattle.sv_connection.specs.declared.close_reason.CloseReason.TheVariants.{AnswerCloses, GivenUp, PeerEnded, ReadFails, WriteFails}
use Rattle.sv_connection.specs.declared.over.Over.{Over}
use Rattle.sv_connection.specs.declared.over.Over.TheVariants.{Closed, Lost}
use Rattle.sv_connection.specs.declared.poller.PollEvent.{PollEvent}
use Rattle.sv_connection.specs.declared.queries.Figures.{Figures}
use Rattle.sv_policy.specs.declared.edit.Edit.{Edit}
use Rattle.sv_run.specs.Events.{Edited, Happening, Opened, Piece, Tick}
use Rattle.sv_run.specs.Reacting.{Reacting}
use Rattle.sv_run.specs.declared.happening.Reaction.{Reaction}
use Rattle.sv_run.specs.declared.step_fault.StepFault.{StepFault}
use Rattle.sv_wire.specs.declared.inbox.Awaited.{Awaited}

pub data Note (S : Type 0) : Type 0 where
  -- The poller reports an event.
  Reports : PollEvent → Note S
  -- An action of the connection of this number.
  Of : ℕ → Action S → Note S
  -- No connection waits to be accepted under this number.
  NoneWaits : ℕ → Note S
  -- A query is answered, by these figures. It asked for this edit of the context of this path, or for none.
  Answers : Figures → Option (List ℕ × Edit) → Note S
  -- A query is answered, by only these figures.
  Shows : Figures → Note S
  -- The handler takes a tick with this time.
  Ticks : ℕ → Reaction → Note S
  -- The handler takes an edit of the context of this path.
  Edits : List ℕ → Edit → Reaction → Note S

-- How a connection ends for this reason.
abbrev pub over_by : CloseReason → Over
over_by PeerEnded = Closed
over_by AnswerCloses = Closed
over_by ReadFails = Lost
over_by WriteFails = Lost
over_by GivenUp = Lost

module _ {S : Type 0} where
  -- The event of an action, its result, its time, and the poller's call, if any.
  abbrev pub event_of : ℕ → Action S → List Happening
  event_of number (Opens reaction) = Opened number ∷ []
  event_of number (Hands bytes moment reaction awaited) = Piece number bytes moment ∷ []
  event_of number (Ends cause stream closing reaction) = over_event number (over_by cause) ∷ []
  event_of number other = []

  abbrev pub answer_of : Action S → List (Result Reaction StepFault)
  answer_of (Opens reaction) = Ok reaction ∷ []
  answer_of (Hands bytes moment reaction awaited) = Ok reaction ∷ []
  answer_of (Ends cause stream closing reaction) = Ok reaction ∷ []
  answer_of other = []

  abbrev pub moment_of : Action S → List ℕ
  moment_of (Hands bytes moment reaction awaited) = moment ∷ []
  moment_of other = []

  abbrev pub poll_of : ℕ → Action S → List (PollerCall S)
  poll_of number (Accepts stream) = Accept number (Some stream) ∷ []
  poll_of number (TurnsAway stream closing) = Close number stream closing ∷ []
  poll_of number (Ends cause stream closing reaction) = Close number stream closing ∷ []
  poll_of number (EndsUntold cause stream closing) = Close number stream closing ∷ []
  poll_of number (Closes stream closing) = Close number stream closing ∷ []
  poll_of number other = []

  -- The same of a note.
  abbrev pub event_in : Note S → List Happening
  event_in (Of number action) = event_of number action
  event_in (Ticks moment reaction) = Tick moment ∷ []
  event_in (Edits path edit reaction) = Edited path edit ∷ []
  event_in other = []

  abbrev pub answer_in : Note S → List (Result Reaction StepFault)
  answer_in (Of number action) = answer_of action
  answer_in (Ticks moment reaction) = Ok reaction ∷ []
  answer_in (Edits path edit reaction) = Ok reaction ∷ []
  answer_in other = []

  abbrev pub moment_in : Note S → List ℕ
  moment_in (Of number action) = moment_of action
  moment_in (Ticks moment reaction) = moment ∷ []
  moment_in other = []

  abbrev pub poll_in : Note S → List (PollerCall S)
  poll_in (Reports event) = Wait event ∷ []
  poll_in (Of number action) = poll_of number action
  poll_in (NoneWaits number) = Accept number None ∷ []
  poll_in (Answers figures asked) = Answer figures asked ∷ []
  poll_in (Shows figures) = Status figures ∷ []
  poll_in other = []

  -- The action of a number in a note, if any.
  abbrev pub action_in : ℕ → Note S → List (Action S)
  action_in number (Of other action) = cond (nat_eq number other) (action ∷ []) []
  action_in number other = []

  abbrev pub events : List (Note S) → List Happening
  events notes = flat_map event_in notes

  abbrev pub answers : List (Note S) → List (Result Reaction StepFault)
  answers notes = flat_map answer_in notes

  abbrev pub moments : List (Note S) → List ℕ
  moments notes = flat_map moment_in notes

  abbrev pub poller_calls : List (Note S) → List (PollerCall S)
  poller_calls notes = flat_map poll_in notes

  -- The actions of one number.
  abbrev pub actions_of : ℕ → List (Note S) → List (Action S)
  actions_of number notes = flat_map (action_in number) notes

module _ {R C S : Type 0} (steps : Reacting R) (awaits : R → ℕ → Awaited) (tells : C → ℕ → C → Type 0) where
  -- The handler takes the event of an action, if it has one. After a piece, it awaits `awaited` of the connection.
  abbrev pub Does : ℕ → R → Action S → R → Type 0
  Does number before (Opens reaction) after = steps before (Opened number) (Ok reaction) after
  Does number before (Hands bytes moment reaction awaited) after =
      steps before (Piece number bytes moment) (Ok reaction) after × (awaits after number ≡ awaited)
  Does number before (Ends cause stream closing reaction) after = steps before (over_event number (over_by cause)) (Ok reaction) after
  Does number before other after = after ≡ before

  -- The handler takes the event of a note, if it has one.
  abbrev pub TakesOne : R → Note S → R → Type 0
  TakesOne before (Of number action) after = Does number before action after
  TakesOne before (Ticks moment reaction) after = steps before (Tick moment) (Ok reaction) after
  TakesOne before (Edits path edit reaction) after = steps before (Edited path edit) (Ok reaction) after
  TakesOne before other after = after ≡ before

  -- The events are taken one after another.
  abbrev pub TakesAll : R → List (Note S) → R → Type 0
  TakesAll before [] after = after ≡ before
  TakesAll before (note ∷ notes) after = (between : R) × TakesOne before note between × TakesAll between notes after

  -- The events are taken, with the times that the clock gives.
  pub record Went (before : R) (clock : C) (notes : List (Note S)) (after : R) (clock_after : C) : Type 0 where
    pub takes : TakesAll before notes after
    pub told : AreTold tells clock (moments notes) clock_after

  -- Actions of only one connection are taken, and lead its number from one slot to another.
  pub record Talks (ways : Ways S) (number : ℕ) (before : R) (clock : C) (place : Slot S) (actions : List (Action S)) (after : R) (clock_after : C) (place_after : Slot S) : Type 0 where
    pub went : Went before clock (map (Of number) actions) after clock_after
    pub along : Along ways place actions place_after
