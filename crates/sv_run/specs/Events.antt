-- One event of a container (RFC 9112, section 9; Jakarta Servlet 6.0, sections 7.5 and 13.8).
use Rattle.std.specs.Prelude.{◌≡◌, ◌⊎◌, ℕ, min, max, true, false, List, [], ◌∷◌, ◌++◌, Option, None, Some, Result, Ok, Err, if◌then◌else◌, nat_le}
use Rattle.sv_journal.specs.declared.entry.Entry.{Entry}
use Rattle.sv_policy.specs.declared.edit.Edit.{Edit}
use Rattle.sv_policy.specs.declared.edit_fault.EditFault.{EditFault}
use Rattle.sv_run.specs.Breaking.{BreaksPiece, DoesNothing, Given}
use Rattle.sv_run.specs.Connections.{Connections, forgotten, opened}
use Rattle.sv_run.specs.Contexts.{Conduct, Theory}
use Rattle.sv_run.specs.Editing.{EditsContext}
use Rattle.sv_run.specs.Effect.{Effect, closing, joined, nothing, telling}
use Rattle.sv_run.specs.Feeding.{FeedsWhere}
use Rattle.sv_run.specs.Items.{Takes}
use Rattle.sv_run.specs.State.{State, World, holding, settled_at}
use Rattle.sv_run.specs.declared.limits.TheConstants.{LAST_MOMENT, MAX_CONNECTIONS}
use Rattle.sv_run.specs.declared.step_fault.StepFault.{StepFault}
use Rattle.sv_run.specs.declared.step_fault.StepFault.TheVariants.{Stopped, BadConnection, TooManyConnections, NoMemory}
use Rattle.sv_wire.specs.declared.item.Item.{Item}
use Rattle.sv_wire.specs.Inbox.{Held}

-- connections have numbers, times are in seconds since 1970, and an edited context is named by its path
pub data Happening : Type 0 where
  Opened : ℕ → Happening
  Piece : ℕ → List ℕ → ℕ → Happening
  Ended : ℕ → Happening
  Lost : ℕ → Happening
  Tick : ℕ → Happening
  Edited : List ℕ → Edit → Happening

-- the connection of an event, if it has one
abbrev pub connection_of : Happening → Option ℕ
connection_of (Opened number) = Some number
connection_of (Piece number bytes moment) = Some number
connection_of (Ended number) = Some number
connection_of (Lost number) = Some number
connection_of (Tick moment) = None
connection_of (Edited path edit) = None

abbrev pub raised : ℕ → ℕ → ℕ
raised before moment = min LAST_MOMENT (max before moment)

-- the time after an event: the greatest time so far, at most the last one that a date can show
abbrev pub moment_after : ℕ → Happening → ℕ
moment_after before (Piece number bytes moment) = raised before moment
moment_after before (Tick moment) = raised before moment
moment_after before (Opened number) = before
moment_after before (Ended number) = before
moment_after before (Lost number) = before
moment_after before (Edited path edit) = before

-- the fault of an opening, if any
abbrev pub opening_fault : Option Held → ℕ → Option StepFault
opening_fault (Some held) known = Some BadConnection
opening_fault None known = if nat_le MAX_CONNECTIONS known then Some TooManyConnections else None

-- the fault of an event that requires a known connection, if any
abbrev pub unknown_fault : Option Held → Option StepFault
unknown_fault (Some held) = None
unknown_fault None = Some BadConnection

-- the fault of an event, if any, apart from running out of memory
abbrev pub fault_of : Connections → Happening → Option StepFault
fault_of connections (Opened number) = opening_fault (connections.held number) connections.known
fault_of connections (Piece number bytes moment) = unknown_fault (connections.held number)
fault_of connections (Ended number) = unknown_fault (connections.held number)
fault_of connections (Lost number) = unknown_fault (connections.held number)
fault_of connections (Tick moment) = None
fault_of connections (Edited path edit) = None

module _ {Context : Type 0} (conduct : Conduct Context) where
  -- the expired sessions end, context by context
  abbrev pub ExpiresAll : List Context → ℕ → List Entry → List Context → Type 0
  ExpiresAll [] moment told after = (told ≡ []) × (after ≡ [])
  ExpiresAll (context ∷ contexts) moment told after =
      (first : List Entry) × (later : List Entry) × (settled : Context) × (others : List Context)
      × conduct.Expires context moment first settled × ExpiresAll contexts moment later others
      × (told ≡ first ++ later) × (after ≡ settled ∷ others)

  -- some calls change each context
  abbrev pub MovesAll : List Context → List Context → Type 0
  MovesAll [] after = after ≡ []
  MovesAll (context ∷ contexts) after =
      (moved : Context) × (others : List Context) × conduct.Moves context moved × MovesAll contexts others × (after ≡ moved ∷ others)

  -- some calls change a context, and then perhaps an edit does
  abbrev pub Alters : Context → Context → Type 0
  Alters before after =
      conduct.Moves before after
      ⊎ ((moved : Context) × (edit : Edit) × (answer : Result ℕ EditFault) × conduct.Moves before moved × conduct.Edits moved edit answer after)

  abbrev pub AltersAll : List Context → List Context → Type 0
  AltersAll [] after = after ≡ []
  AltersAll (context ∷ contexts) after =
      (altered : Context) × (others : List Context) × Alters context altered × AltersAll contexts others × (after ≡ altered ∷ others)

module _ {Context Words : Type 0} (theory : Theory Context Words) where
  -- a piece of a connection: its completed items are handled, and the rest is held, unless the connection closes
  pub record TakesPiece (before : State Context Words) (number : ℕ) (piece : List ℕ) (effect : Effect Context) (after : State Context Words) : Type 0 where
    pub held : Held
    pub holds : before.connections.held number ≡ Some held
    pub items : List Item
    pub left : Held
    pub feeds : FeedsWhere effect.closes held piece items left
    pub world : World Context Words
    pub takes : Takes theory before.moment items before.world effect world
    pub is_after : after ≡ holding number left (record before { world = world })

  -- the event itself, at its time
  abbrev pub Happens : State Context Words → Happening → Effect Context → State Context Words → Type 0
  Happens before (Opened number) effect after = (effect ≡ nothing) × (after ≡ record before { connections = opened number before.connections })
  Happens before (Piece number bytes moment) effect after = TakesPiece before number bytes effect after
  Happens before (Ended number) effect after = (effect ≡ closing) × (after ≡ record before { connections = forgotten number before.connections })
  Happens before (Lost number) effect after = (effect ≡ nothing) × (after ≡ record before { connections = forgotten number before.connections })
  Happens before (Tick moment) effect after = (effect ≡ nothing) × (after ≡ before)
  Happens before (Edited path edit) effect after = EditsContext theory before path edit effect after

  -- an event without a fault: the time is raised, the expired sessions end, and then the event happens
  pub record Accepts (before : State Context Words) (happening : Happening) (effect : Effect Context) (after : State Context Words) : Type 0 where
    pub runs : before.stopped ≡ false
    pub no_fault : fault_of before.connections happening ≡ None
    pub told : List Entry
    pub contexts : List Context
    pub expires : ExpiresAll theory.conduct before.world.contexts (moment_after before.moment happening) told contexts
    pub brings : Effect Context
    pub happens : Happens (settled_at (moment_after before.moment happening) contexts before) happening brings after
    pub is_joined : effect ≡ joined (telling told) brings

  -- a refused event changes nothing
  pub record Refuses (before : State Context Words) (happening : Happening) (fault : StepFault) (after : State Context Words) : Type 0 where
    pub runs : before.stopped ≡ false
    pub is_fault : fault_of before.connections happening ≡ Some fault
    pub stays : after ≡ before

  -- how far the event itself proceeded, at its time: a piece was handled up to an item, and any other event did nothing
  abbrev pub BreaksOff : State Context Words → Happening → List (Given Context) → World Context Words → Type 0
  BreaksOff before (Piece number bytes moment) given after = DoesNothing before.world given after ⊎ BreaksPiece theory before number bytes given after
  BreaksOff before (Opened number) given after = DoesNothing before.world given after
  BreaksOff before (Ended number) given after = DoesNothing before.world given after
  BreaksOff before (Lost number) given after = DoesNothing before.world given after
  BreaksOff before (Tick moment) given after = DoesNothing before.world given after
  BreaksOff before (Edited path edit) given after = DoesNothing before.world given after

  -- running out of memory stops the container: the expired sessions still end, and the event broke off after some
  -- requests were given to contexts
  pub record Breaks (before : State Context Words) (happening : Happening) (after : State Context Words) : Type 0 where
    pub runs : before.stopped ≡ false
    pub no_fault : fault_of before.connections happening ≡ None
    pub stops : after.stopped ≡ true
    pub told : List Entry
    pub contexts : List Context
    pub expires : ExpiresAll theory.conduct before.world.contexts (moment_after before.moment happening) told contexts
    pub given : List (Given Context)
    pub breaks : BreaksOff (settled_at (moment_after before.moment happening) contexts before) happening given after.world
    pub moves : MovesAll theory.conduct before.world.contexts after.world.contexts

  -- an event with its effect, or the reason why it is refused
  abbrev pub Steps : State Context Words → Happening → Result (Effect Context) StepFault → State Context Words → Type 0
  Steps before happening (Ok effect) after = Accepts before happening effect after
  Steps before happening (Err Stopped) after = (before.stopped ≡ true) × (after ≡ before)
  Steps before happening (Err BadConnection) after = Refuses before happening BadConnection after
  Steps before happening (Err TooManyConnections) after = Refuses before happening TooManyConnections after
  Steps before happening (Err NoMemory) after = Breaks before happening after
