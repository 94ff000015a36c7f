-- The laws of runs.
use Rattle.std.specs.Prelude.{◌≡◌, ◌≢◌, ◌↔◌, ◌⊎◌, ℕ, true, false, List, [], ◌∷◌, ◌++◌, bytes_eq, filter, flat_map, map, Option, None, Some, Ok, Err, if◌then◌else◌, slice_get}
use Rattle.std.specs.List.{AllByRecursion}
use Rattle.sv_constraints.specs.declared.owned_decision.OwnedDecision.TheVariants as decisions
use Rattle.sv_constraints.specs.declared.owned_decision.OwnedWhy.{OwnedWhy}
use Rattle.sv_mapping.specs.Within.{path_within}
use Rattle.sv_journal.specs.declared.entry.Entry.{Entry}
use Rattle.sv_journal.specs.declared.entry.Entry.TheVariants as entries
use Rattle.sv_login.specs.OutcomeLaws.{IsOrdinary}
use Rattle.sv_policy.specs.Compiled.{Standing}
use Rattle.sv_policy.specs.Edits.{edited_all}
use Rattle.sv_policy.specs.declared.edit.Edit.{Edit}
use Rattle.sv_run.specs.Contexts.{Handling, Theory}
use Rattle.sv_run.specs.Editing.{place_with}
use Rattle.sv_run.specs.Effect.{Answered, Deed, Effect, Handled, joined, joined_all}
use Rattle.sv_run.specs.Events.{Accepts, Breaks, Edited, Ended, Happening, Lost, Opened, Piece, Steps, Tick, connection_of, moment_after}
use Rattle.sv_run.specs.Feeding.{Feeds}
use Rattle.sv_run.specs.Lawful.{Holds, LogsIn, entry_of, is_outcome}
use Rattle.sv_run.specs.Runs.{Answer, Run, deeds_of, journal_of}
use Rattle.sv_run.specs.State.{State}
use Rattle.sv_run.specs.declared.step_fault.StepFault.{StepFault}
use Rattle.sv_run.specs.declared.step_fault.StepFault.TheVariants.{NoMemory, Stopped}
use Rattle.sv_session.specs.Runs.{ChangedByCalls}
use Rattle.sv_wire.specs.Inbox.{Held}
use Rattle.sv_wire.specs.Items.{are_ended}
use Rattle.sv_wire.specs.Reads.{Reads}
use Rattle.sv_wire.specs.declared.item.Item.{Item}
use Rattle.sv_wire.specs.declared.owed_head.OwedHead.{OwedHead}

-- once an item has ended the reading, further bytes change nothing
abbrev pub EndedReadingsStay : Type 0
EndedReadingsStay =
    (owed : Option OwedHead) (first second : List ℕ) (items : List Item) (left : Option OwedHead) (rest : List ℕ)
    → are_ended items ≡ true → Reads owed first items left rest → Reads owed (first ++ second) items left rest

-- the two parts of a piece complete the same items and leave the same state held
abbrev pub FeedsInParts : Held → List ℕ → List ℕ → List Item → Held → Type 0
FeedsInParts before first second items after =
    (front : List Item) × (more : List Item) × (between : Held)
    × Feeds before first front between × Feeds between second more after × (items ≡ front ++ more)

abbrev pub FeedingsMayBeCut : Type 0
FeedingsMayBeCut =
    (before after : Held) (first second : List ℕ) (items : List Item)
    → Feeds before (first ++ second) items after ↔ FeedsInParts before first second items after

-- the text of a piece that arrives in parts
abbrev pub text_of_parts : List (List ℕ) → List ℕ
text_of_parts [] = []
text_of_parts (part ∷ parts) = part ++ text_of_parts parts

-- the parts as pieces at one time
abbrev pub pieces_of : ℕ → ℕ → List (List ℕ) → List Happening
pieces_of number moment parts = map (λ part. Piece number part moment) parts

-- effects that differ only in their entries
pub record AreAlike {Context : Type 0} (one other : Effect Context) : Type 0 where
  pub sends : one.sends ≡ other.sends
  pub closes : one.closes ≡ other.closes
  pub deeds : one.deeds ≡ other.deeds
  pub edited : one.edited ≡ other.edited

-- the piece completes no item
pub record CompletesNothing {Context Words : Type 0} (state : State Context Words) (number : ℕ) (bytes : List ℕ) : Type 0 where
  pub held : Held
  pub left : Held
  pub holds : state.connections.held number ≡ Some held
  pub feeds : Feeds held bytes [] left

-- the edits, among the events, of the context with the path, in order
abbrev pub edit_for : List ℕ → Happening → List Edit
edit_for path (Edited other edit) = if bytes_eq path other then edit ∷ [] else []
edit_for path (Opened number) = []
edit_for path (Piece number bytes moment) = []
edit_for path (Ended number) = []
edit_for path (Lost number) = []
edit_for path (Tick moment) = []

abbrev pub edits_of : List ℕ → List Happening → List Edit
edits_of path happenings = flat_map (edit_for path) happenings

module _ {Context Words : Type 0} (theory : Theory Context Words) where
  -- two pieces at one time
  pub record AcceptsInParts (before : State Context Words) (number : ℕ) (first second : List ℕ) (moment : ℕ) (effect : Effect Context)
      (after : State Context Words) : Type 0 where
    pub between : State Context Words
    pub front : Effect Context
    pub back : Effect Context
    pub begins : Accepts theory before (Piece number first moment) front between
    pub goes_on : Accepts theory between (Piece number second moment) back after
    pub is_joined : effect ≡ joined front back

  -- a piece has the same result as its two parts
  abbrev pub PiecesMayBeCut : Type 0
  PiecesMayBeCut =
      (before after : State Context Words) (number : ℕ) (first second : List ℕ) (moment : ℕ) (effect : Effect Context)
      → Accepts theory before (Piece number (first ++ second) moment) effect after
      ↔ AcceptsInParts before number first second moment effect after

  -- a piece has the same result as any number of its parts
  abbrev pub PiecesMayComeInParts : Type 0
  PiecesMayComeInParts =
      (before after : State Context Words) (number : ℕ) (first : List ℕ) (parts : List (List ℕ)) (moment : ℕ) (effect : Effect Context)
      → Accepts theory before (Piece number (first ++ text_of_parts parts) moment) effect after
      ↔ ((effects : List (Effect Context))
      × Run theory before (pieces_of number moment (first ∷ parts)) (map Ok effects) after × (effect ≡ joined_all effects))

  -- two events, one after the other, with their journals joined
  pub record AcceptsBoth (before : State Context Words) (first second : Happening) (front back : Effect Context) (journal : List Entry)
      (after : State Context Words) : Type 0 where
    pub between : State Context Words
    pub begins : Accepts theory before first front between
    pub goes_on : Accepts theory between second back after
    pub is_joined : journal ≡ front.journal ++ back.journal

  -- the same two events in the other order, with effects that are alike
  pub record AcceptsOtherwise (before : State Context Words) (first second : Happening) (front back : Effect Context) (journal : List Entry)
      (after : State Context Words) : Type 0 where
    pub other_front : Effect Context
    pub other_back : Effect Context
    pub accepts : AcceptsBoth before second first other_front other_back journal after
    pub first_alike : AreAlike front other_back
    pub second_alike : AreAlike back other_front

  -- a piece that completes no item commutes with an event of another connection, if neither of them raises the time
  abbrev pub OrdersAreAlike : Type 0
  OrdersAreAlike =
      (before after : State Context Words) (number : ℕ) (bytes : List ℕ) (moment : ℕ) (other : Happening) (journal : List Entry)
      (one two : Effect Context)
      → connection_of other ≢ Some number
      → moment_after before.moment (Piece number bytes moment) ≡ before.moment → moment_after before.moment other ≡ before.moment
      → CompletesNothing before number bytes
      → (AcceptsBoth before (Piece number bytes moment) other one two journal after
      → AcceptsOtherwise before (Piece number bytes moment) other one two journal after)
      × (AcceptsBoth before other (Piece number bytes moment) one two journal after
      → AcceptsOtherwise before other (Piece number bytes moment) one two journal after)

  -- a refused event changes nothing, unless it ran out of memory
  abbrev pub RefusedEventsChangeNothing : Type 0
  RefusedEventsChangeNothing =
      (before after : State Context Words) (happening : Happening) (fault : StepFault)
      → Steps theory before happening (Err fault) after → fault ≢ NoMemory → after ≡ before

  -- after an event has run out of memory, each later event is refused as Stopped, and nothing changes
  abbrev pub WantOfMemoryStops : Type 0
  WantOfMemoryStops =
      (before between after : State Context Words) (happening : Happening) (happenings : List Happening) (answers : List (Answer Context))
      → Steps theory before happening (Err NoMemory) between → Run theory between happenings answers after
      → AllByRecursion (λ answer. answer ≡ Err Stopped) answers × (after ≡ between)

  -- if an event runs out of memory, a context that was given no request is unchanged apart from the end of its expired
  -- sessions
  abbrev pub OthersStay : Type 0
  OthersStay =
      (before after : State Context Words) (happening : Happening) (breaks : Breaks theory before happening after) (place : ℕ)
      → AllByRecursion (λ given. given.place ≢ place) breaks.given
      → slice_get after.world.contexts place ≡ slice_get breaks.contexts place

  -- a run followed by another run is a run
  abbrev pub RunsJoin : Type 0
  RunsJoin =
      (before between after : State Context Words) (first second : List Happening) (answers more : List (Answer Context))
      → Run theory before first answers between → Run theory between second more after
      → Run theory before (first ++ second) (answers ++ more) after

  -- a run over two lists of events is a run over the first followed by a run over the second
  pub record RunsInParts (before : State Context Words) (first second : List Happening) (answers : List (Answer Context))
      (after : State Context Words) : Type 0 where
    pub front : List (Answer Context)
    pub back : List (Answer Context)
    pub between : State Context Words
    pub begins : Run theory before first front between
    pub goes_on : Run theory between second back after
    pub are : answers ≡ front ++ back

  abbrev pub RunsSplit : Type 0
  RunsSplit =
      (before after : State Context Words) (first second : List Happening) (answers : List (Answer Context))
      → Run theory before (first ++ second) answers after → RunsInParts before first second answers after

  -- the entry that reports the outcome of a message
  abbrev pub deed_entry : Deed Context → Entry
  deed_entry (Answered entry) = entry
  deed_entry (Handled place handling) = entry_of theory handling

  -- the combined constraints allow the request, which is neither to a protected path nor a login
  pub record IsAllowed (handling : Handling Context) : Type 0 where
    pub ordinary : IsOrdinary (theory.conduct.findings handling.context handling.request)
    pub why : OwnedWhy
    pub verdict : (theory.conduct.findings handling.context handling.request).verdict ≡ decisions.Open why

  -- a request enters exactly if it is allowed; a message that the container answers itself never enters
  abbrev pub EntersWhereAllowed : Deed Context → Type 0
  EntersWhereAllowed (Answered entry) = (context path : List ℕ) → entry ≢ entries.Entered context path
  EntersWhereAllowed (Handled place handling) =
      (entry_of theory handling
      ≡ entries.Entered (theory.path_of handling.context) (path_within (theory.path_of handling.context) handling.request.canon.path))
      ↔ IsAllowed handling

  -- for every list of events, the journal reports the outcome of each message once, in order, and a request enters
  -- exactly if the combined constraints allow it
  abbrev pub RequestsEnterExactlyWhereAllowed : Type 0
  RequestsEnterExactlyWhereAllowed =
      (before after : State Context Words) (happenings : List Happening) (answers : List (Answer Context))
      → Run theory before happenings answers after
      → (filter is_outcome (journal_of answers) ≡ map deed_entry (deeds_of answers)) × AllByRecursion EntersWhereAllowed (deeds_of answers)

  -- after the message, the session with that number still holds the caller in the context at the place
  abbrev pub KeepsCaller : ℕ → ℕ → ℕ → Deed Context → Type 0
  KeepsCaller place number caller (Answered entry) = Unit {0}
  KeepsCaller place number caller (Handled other handling) = place ≡ other → Holds theory number caller handling.after

  -- a request to the context at the place was a login on the session with that number as that caller, and each later
  -- request kept the caller
  pub record LoggedInBefore (place number caller : ℕ) (deeds : List (Deed Context)) : Type 0 where
    pub earlier : List (Deed Context)
    pub login : Handling Context
    pub later : List (Deed Context)
    pub are : deeds ≡ earlier ++ Handled place login ∷ later
    pub logs_in : LogsIn theory number caller login
    pub stays : AllByRecursion (KeepsCaller place number caller) later

  -- the session with that number holds the caller in the context at the place
  pub record HoldsAt (place number caller : ℕ) (contexts : List Context) : Type 0 where
    pub context : Context
    pub there : slice_get contexts place ≡ Some context
    pub holds : Holds theory number caller context

  -- a session held the caller before these messages, and each of them kept it
  abbrev pub HeldThroughout : ℕ → ℕ → ℕ → List Context → List (Deed Context) → Type 0
  HeldThroughout place number caller contexts deeds =
      HoldsAt place number caller contexts × AllByRecursion (KeepsCaller place number caller) deeds

  -- as long as no event runs out of memory, a session that holds a caller held it before, and throughout, or gained it by
  -- a successful login that nothing has undone since
  abbrev pub CallersStayOrLogIn : Type 0
  CallersStayOrLogIn =
      (before after : State Context Words) (happenings : List Happening) (answers : List (Answer Context)) (place number caller : ℕ)
      → Run theory before happenings answers after → after.stopped ≡ false → HoldsAt place number caller after.world.contexts
      → HeldThroughout place number caller before.world.contexts (deeds_of answers) ⊎ LoggedInBefore place number caller (deeds_of answers)

  -- as long as no event runs out of memory, a session gains a caller only by a successful login that nothing has undone
  -- since
  abbrev pub CallersLoggedIn : Type 0
  CallersLoggedIn =
      (before after : State Context Words) (happenings : List Happening) (answers : List (Answer Context)) (place number caller : ℕ)
      → Run theory before happenings answers after → after.stopped ≡ false
      → ¬ (HoldsAt place number caller before.world.contexts) → HoldsAt place number caller after.world.contexts
      → LoggedInBefore place number caller (deeds_of answers)

  -- the context at a place, if there is one, stays there, and its sessions change only by calls
  abbrev pub SessionsChange : Option Context → Option Context → Type 0
  SessionsChange None after = after ≡ None
  SessionsChange (Some first) after =
      (last : Context) × (after ≡ Some last) × ChangedByCalls (theory.conduct.sessions_of first) (theory.conduct.sessions_of last)

  -- as long as no event runs out of memory, the sessions of each context change only by calls
  abbrev pub SessionsChangeByCalls : Type 0
  SessionsChangeByCalls =
      (before after : State Context Words) (happenings : List Happening) (answers : List (Answer Context)) (place : ℕ)
      → Run theory before happenings answers after → after.stopped ≡ false
      → SessionsChange (slice_get before.world.contexts place) (slice_get after.world.contexts place)

  -- the current constraints of the context at a place
  abbrev pub policy_at : List Context → ℕ → Option Standing
  policy_at contexts place = slice_get (map theory.conduct.policy_of contexts) place

  -- as long as no event runs out of memory, only edits change the constraints: those of a context are the result of its
  -- own edits, in order, and edits of other contexts do not affect them
  abbrev pub ConstraintsChangeByEditsAlone : Type 0
  ConstraintsChangeByEditsAlone =
      (before after : State Context Words) (happenings : List Happening) (answers : List (Answer Context)) (path : List ℕ) (place : ℕ) (standing : Standing)
      → Run theory before happenings answers after → after.stopped ≡ false
      → place_with theory before.world.contexts path ≡ Some place → policy_at before.world.contexts place ≡ Some standing
      → policy_at after.world.contexts place ≡ Some (edited_all standing (edits_of path happenings))
