-- Contexts that resume with what remains of suspended ones (Jakarta Servlet 6.0, sections 7.5, 11.3.4, 13.6 and 13.8).
use Rattle.std.specs.Prelude.{◌≡◌, ℕ, Bool, true, not, List, [], ◌∷◌, length, map, filter, Option, None, Some, is_some, slice_get, Result, Ok, Err}
use Rattle.std.specs.List.{position, remove}
use Rattle.std.specs.Option.{option_and_then, option_map, option_map_or}
use Rattle.std.specs.Str.{bytes_eq}
use Rattle.sv_component.specs.Runs.{Runs}
use Rattle.sv_component.specs.Steps.{ComponentSteps}
use Rattle.sv_context.specs.Deployment.{no_sessions}
use Rattle.sv_context.specs.Expiry.{ends_told}
use Rattle.sv_context.specs.State.{ContextState, IsSameDeployment, world_of}
use Rattle.sv_context.specs.declared.resumption.Resumption.{Resumption}
use Rattle.sv_descriptor.specs.declared.web_app.WebApp.{WebApp}
use Rattle.sv_journal.specs.Journal.{JournalState}
use Rattle.sv_lifecycle.specs.declared.deployment.Deployment.{Deployment}
use Rattle.sv_live.specs.Calling.{StandsAsBefore}
use Rattle.sv_live.specs.Standing.{LiveState, live_world}
use Rattle.sv_lifecycle.specs.declared.suspended_context.SuspendedContext.{SuspendedContext}
use Rattle.sv_policy.specs.Compiled.{Standing}
use Rattle.sv_policy.specs.Resuming.{resumption}
use Rattle.sv_policy.specs.declared.edit_fault.EditFault.{EditFault}
use Rattle.sv_realm.specs.Realm.{successor}
use Rattle.sv_realm.specs.declared.account.User.{User}
use Rattle.sv_session.specs.Calls.{ended}
use Rattle.sv_session.specs.Store.{Session, Store}

-- Whether the caller of a session is still a user: one of the same name, salt and digest. A session without a caller has
-- none that is missing.
abbrev pub keeps_caller : List User → List User → Session → Bool
keeps_caller users earlier session = option_map_or (λ caller. is_some (successor users earlier caller)) session.caller true

-- The session, with the number that its caller has now.
abbrev pub resumed_session : List User → List User → Session → Session
resumed_session users earlier session = record session { caller = option_and_then (successor users earlier) session.caller }

-- The sessions that go on, and those that end.
abbrev pub resumed_sessions : List User → List User → List Session → List Session
resumed_sessions users earlier sessions = map (resumed_session users earlier) (filter (keeps_caller users earlier) sessions)

abbrev pub ending_sessions : List User → List User → List Session → List Session
ending_sessions users earlier sessions = filter (λ session. not (keeps_caller users earlier session)) sessions

-- The store of a context of the descriptor, with the sessions that go on. Its serials go on, too.
abbrev pub resumed_store : WebApp → List User → List User → Store → Store
resumed_store app users earlier store = record (no_sessions app) { serial = store.serial; sessions = resumed_sessions users earlier store.sessions }

-- The caller that a session has now, if it goes on.
abbrev pub caller_now : List User → List User → Option ℕ → Option (Option ℕ)
caller_now users earlier None = Some None
caller_now users earlier (Some caller) = option_map Some (successor users earlier caller)

module _ {S F L : Type 0} (moving : ComponentSteps S F L) where
  -- The sessions whose callers are no users any more end, and the others go on. The listeners are notified of each that
  -- ends, in the order of their numbers.
  pub record StrangersEnd (users earlier : List User) (live : LiveState S F L) (store : Store) (noted : JournalState)
      (live_after : LiveState S F L) (store_after : Store) (noted_after : JournalState) : Type 0 where
    pub told : Runs moving (live_world live noted)
        (ends_told (map ended (ending_sessions users earlier store.sessions)) (length live.parts.listeners.items)) (live_world live_after noted_after)
    pub store_is : store_after ≡ record store { sessions = resumed_sessions users earlier store.sessions }
    pub stands : StandsAsBefore live live_after

  -- A started context goes on with sessions and constraints of an earlier one. The listeners are notified of each session
  -- that ends, in the order of their numbers. Nothing else changes.
  pub record ResumesWith (resumes : Resumption) (before : ContextState S F L) (noted : JournalState) (after : ContextState S F L) (noted_after : JournalState) : Type 0 where
    pub told : Runs moving (world_of before noted)
        (ends_told (map ended (ending_sessions before.users resumes.users resumes.sessions.store.sessions)) (length before.listeners)) (world_of after noted_after)
    pub store : after.store ≡ resumed_store before.content.app before.users resumes.users resumes.sessions.store
    pub stays : IsSameDeployment (record before { policy = resumes.policy }) after
    pub standings : after.standings ≡ before.standings

  -- Each context that has something to resume with does so, in the order of the contexts.
  abbrev pub Resumes : Option Resumption → ContextState S F L → JournalState → ContextState S F L → JournalState → Type 0
  Resumes None before noted after noted_after = (after ≡ before) × (noted_after ≡ noted)
  Resumes (Some resumes) before noted after noted_after = ResumesWith resumes before noted after noted_after

  abbrev pub ResumesAll : List (Option Resumption) → List (ContextState S F L) → JournalState → List (ContextState S F L) → JournalState → Type 0
  ResumesAll resumptions [] noted after noted_after = (after ≡ []) × (noted_after ≡ noted)
  ResumesAll [] (context ∷ contexts) noted after noted_after = (after ≡ context ∷ contexts) × (noted_after ≡ noted)
  ResumesAll (resumption ∷ resumptions) (context ∷ contexts) noted after noted_after =
      (first : ContextState S F L) × (others : List (ContextState S F L)) × (between : JournalState)
      × Resumes resumption context noted first between × ResumesAll resumptions contexts between others noted_after
      × (after ≡ first ∷ others)

-- The constraints with which the context of a descriptor resumes.
abbrev pub constraints_resumed : WebApp → SuspendedContext → Result Standing EditFault
constraints_resumed app suspended = resumption app.constraints app.rules suspended.declared suspended.constraints suspended.greatest

-- What a context resumes with: the users and sessions of a suspended one, and constraints.
pub record IsOf (suspended : SuspendedContext) (policy : Standing) (resumes : Resumption) : Type 0 where
  pub users : resumes.users ≡ suspended.users
  pub sessions : resumes.sessions ≡ suspended.sessions
  pub policy_is : resumes.policy ≡ policy

-- What remains of a context is taken for it, unless its constraints are refused; then it is left.
abbrev pub TakesWhole : SuspendedContext → Result Standing EditFault → Option Resumption → List SuspendedContext → List SuspendedContext → List SuspendedContext → Type 0
TakesWhole suspended (Ok policy) result taken before after =
    (resumes : Resumption) × IsOf suspended policy resumes × (result ≡ Some resumes) × (after ≡ taken)
TakesWhole suspended (Err fault) result taken before after = (result ≡ None) × (after ≡ before)

-- Of a list of suspended contexts, the first with the path of a deployment is taken for its context.
abbrev pub place_of_path : List ℕ → List SuspendedContext → Option ℕ
place_of_path path suspended = position (λ one. bytes_eq one.path path) suspended

abbrev pub TakesAt : WebApp → Option ℕ → List SuspendedContext → Option Resumption → List SuspendedContext → Type 0
TakesAt app None before result after = (result ≡ None) × (after ≡ before)
TakesAt app (Some place) before result after =
    (suspended : SuspendedContext) × (slice_get before place ≡ Some suspended)
    × TakesWhole suspended (constraints_resumed app suspended) result (remove before place) before after

abbrev pub Takes : {S F L : Type 0} → Deployment S F L → List SuspendedContext → Option Resumption → List SuspendedContext → Type 0
Takes deployment before result after = TakesAt deployment.descriptor (place_of_path deployment.path before) before result after

-- The deployments take what remains of their contexts, one after another. The rest is left.
abbrev pub TakesAll : {S F L : Type 0} → List (Deployment S F L) → List SuspendedContext → List (Option Resumption) → List SuspendedContext → Type 0
TakesAll [] before resumptions after = (resumptions ≡ []) × (after ≡ before)
TakesAll (deployment ∷ deployments) before resumptions after =
    (first : Option Resumption) × (others : List (Option Resumption)) × (between : List SuspendedContext)
    × Takes deployment before first between × TakesAll deployments between others after × (resumptions ≡ first ∷ others)
