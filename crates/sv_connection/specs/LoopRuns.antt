-- The event loop as one list of notes and as a run of a container.
use Rattle.std.specs.Prelude.{◌≡◌, ◌⊎◌, ℕ, List, [], ◌∷◌, ◌++◌, Some, cond, flat_map, map, nat_eq, Result, Ok, Err}
use Rattle.std.specs.List.{AllByRecursion}
use Rattle.sv_connection.specs.Connection.{AreTold}
use Rattle.sv_connection.specs.Course.{Along}
use Rattle.sv_connection.specs.LoopLaws.{calls_of}
use Rattle.sv_connection.specs.Loops.{Goes, times_of}
use Rattle.sv_connection.specs.Notes.{Note, Reports, answers, events, poll_of}
use Rattle.sv_connection.specs.Polling.{Accept, AreCalled, Close, PollerCall, Polling}
use Rattle.sv_connection.specs.Rounds.{Round, Rounds}
use Rattle.sv_connection.specs.Slots.{Action, Over, Slot, Unused}
use Rattle.sv_connection.specs.Ways.{Ways}
use Rattle.sv_connection.specs.Whole.{Serves}
use Rattle.sv_connection.specs.declared.event_loop.EventLoop.{EventLoop}
use Rattle.sv_connection.specs.declared.limits.Limits.{Limits}
use Rattle.sv_run.specs.Contexts.{Theory}
use Rattle.sv_run.specs.Events.{Happening, Piece}
use Rattle.sv_run.specs.Reacting.{Reacting, Reacts, StepsLike, answer_shown}
use Rattle.sv_run.specs.Runs.{Answer, Run}
use Rattle.sv_run.specs.State.{State}
use Rattle.sv_run.specs.declared.happening.Reaction.{Reaction}
use Rattle.sv_run.specs.declared.step_fault.StepFault.{StepFault}
use Rattle.sv_run.specs.declared.step_fault.StepFault.TheVariants.{NoMemory}
use Rattle.sv_streams.specs.Calls.{given, taken}
use Rattle.sv_wire.specs.declared.inbox.Awaited.{Awaited}

-- All that is done in a round.
abbrev pub round_notes : {S : Type 0} → Round S → List (Note S)
round_notes round = Reports round.event ∷ round.notes

module _ {R N C S : Type 0} (ways : Ways S) (steps : Reacting R) (awaits : R → ℕ → Awaited) (tells : C → ℕ → C → Type 0) (polls : Polling N S) where
  -- Rounds form one sequence.
  abbrev pub RoundsAreOne : Type 0
  RoundsAreOne =
      (before after : EventLoop R N C S) (rounds : List (Round S)) → Rounds ways steps awaits tells polls before rounds after
      → Goes ways steps awaits tells polls before (flat_map round_notes rounds) after

  -- The events of notes are taken one after another, each with its result.
  abbrev pub NotesAreReactions : Type 0
  NotesAreReactions =
      (before after : EventLoop R N C S) (notes : List (Note S)) → Goes ways steps awaits tells polls before notes after
      → Reacts steps before.handler (events notes) (answers notes) after.handler

-- The event was taken.
abbrev pub IsTaken : Result Reaction StepFault → Type 0
IsTaken (Ok reaction) = Unit {0}
IsTaken (Err fault) = ⊥

-- The bytes of a piece of the connection of a number, if the event is one and was taken, and the bytes that its
-- reaction sends.
abbrev pub handed_to : ℕ → Happening → Result Reaction StepFault → List ℕ
handed_to number (Piece connection bytes moment) (Ok reaction) = cond (nat_eq number connection) bytes []
handed_to number happening result = []

abbrev pub sent_to : ℕ → Happening → Result Reaction StepFault → List ℕ
sent_to number (Piece connection bytes moment) (Ok reaction) = cond (nat_eq number connection) reaction.sends []
sent_to number happening result = []

-- The bytes of all events, each with its result.
abbrev pub of_all : (Happening → Result Reaction StepFault → List ℕ) → List Happening → List (Result Reaction StepFault) → List ℕ
of_all bytes (happening ∷ happenings) (result ∷ results) = bytes happening result ++ of_all bytes happenings results
of_all bytes happenings results = []

module _ {S : Type 0} where
  -- A call of the poller that gives or closes the stream of this number.
  abbrev pub call_for : ℕ → PollerCall S → List (PollerCall S)
  call_for number (Accept other (Some stream)) = cond (nat_eq number other) (Accept other (Some stream) ∷ []) []
  call_for number (Close other stream closing) = cond (nat_eq number other) (Close other stream closing ∷ []) []
  call_for number call = []

  -- The connection of a number, from the accept of its stream to the close: the bytes read are those of its pieces,
  -- and more that were not passed on. The bytes written are those that the reactions to its pieces send, up to some
  -- byte. The stream is the one that the poller gave under this number; it is led only by the calls of this course, and
  -- then the poller closes it.
  pub record IsServed (ways : Ways S) (number : ℕ) (happenings : List Happening) (results : List (Result Reaction StepFault)) (calls : List (PollerCall S)) : Type 0 where
    pub course : List (Action S)
    pub place : Slot S
    pub along : Along ways Unused course place
    pub is_closed : (place ≡ Unused) ⊎ (place ≡ Over)
    pub are_its_calls : flat_map (call_for number) calls ≡ flat_map (poll_of number) course
    pub unread : List ℕ
    pub is_read : given (flat_map calls_of course) ≡ of_all (handed_to number) happenings results ++ unread
    pub unsent : List ℕ
    pub is_written : taken (flat_map calls_of course) ++ unsent ≡ of_all (sent_to number) happenings results

-- All events were taken, or all but the last, whose fault is the result, or memory ran out.
abbrev pub IsOverBy : Result (Unit {0}) StepFault → List (Result Reaction StepFault) → Type 0
IsOverBy (Ok done) results = AllByRecursion IsTaken results
IsOverBy (Err fault) results =
    ((front : List (Result Reaction StepFault)) × (results ≡ front ++ Err fault ∷ []) × AllByRecursion IsTaken front)
    ⊎ ((fault ≡ NoMemory) × AllByRecursion IsTaken results)

module _ {R N C S Context Words : Type 0} (ways : Ways S) (steps : Reacting R) (tells : C → ℕ → C → Type 0) (polls : Polling N S)
    (theory : Theory Context Words) (state_of : R → State Context Words) where
  -- The events of all connections are a run of the container, with the times that the clock gives and the calls that
  -- the poller makes, and each connection is served by this run.
  pub record IsARunOfAll (handler : R) (poller : N) (clock : C) (result : Result (Unit {0}) StepFault) (handler_after : R) (poller_after : N) (clock_after : C) : Type 0 where
    pub happenings : List Happening
    pub results : List (Result Reaction StepFault)
    pub answered : List (Answer Context)
    pub runs : Run theory (state_of handler) happenings answered (state_of handler_after)
    pub are_shown : results ≡ map answer_shown answered
    pub is_over : IsOverBy result results
    pub told : AreTold tells clock (flat_map times_of happenings) clock_after
    pub calls : List (PollerCall S)
    pub polled : AreCalled polls poller calls poller_after
    pub each : (number : ℕ) → IsServed ways number happenings results calls

  abbrev pub AnEventLoopIsARun : (R → ℕ → Awaited) → Type 0
  AnEventLoopIsARun awaits =
      StepsLike steps theory state_of
      → (limits : Limits) (handler handler_after : R) (poller poller_after : N) (clock clock_after : C) (result : Result (Unit {0}) StepFault)
      → Serves ways steps awaits tells polls limits handler poller clock result handler_after poller_after clock_after
      → IsARunOfAll handler poller clock result handler_after poller_after clock_after
