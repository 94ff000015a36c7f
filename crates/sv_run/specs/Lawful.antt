-- The requirements of the laws of runs on contexts.
use Rattle.std.specs.Prelude.{◌≡◌, ◌⊎◌, ℕ, Bool, true, false, List, [], ◌∷◌, filter, Option, Some, Result}
use Rattle.std.specs.List.{AllByRecursion}
use Rattle.sv_mapping.specs.Within.{path_within}
use Rattle.sv_journal.specs.declared.entry.Entry.{Entry}
use Rattle.sv_journal.specs.declared.entry.Entry.TheVariants.{Entered, SentToLogin, Refused, Hidden, Told, Called}
use Rattle.sv_login.specs.Outcome.{outcome}
use Rattle.sv_login.specs.OutcomeEntry.{outcome_entry}
use Rattle.sv_login.specs.declared.outcome.Outcome.{Outcome}
use Rattle.sv_login.specs.declared.outcome.Outcome.TheVariants as outcomes
use Rattle.sv_policy.specs.Edits.{GivesOutcome, edit_outcome}
use Rattle.sv_policy.specs.declared.edit.Edit.{Edit}
use Rattle.sv_policy.specs.declared.edit_fault.EditFault.{EditFault}
use Rattle.sv_run.specs.Contexts.{Conduct, Handling, HasNoneExpired, Theory}
use Rattle.sv_session.specs.Calls.{HoldsCaller}
use Rattle.sv_session.specs.Runs.{ChangedByCalls}

-- whether an entry reports the outcome of a message; the other entries report calls and notifications
abbrev pub is_outcome : Entry → Bool
is_outcome (Entered context path) = true
is_outcome (SentToLogin context why) = true
is_outcome (Refused cause) = true
is_outcome (Hidden cause) = true
is_outcome (Told context listener event) = false
is_outcome (Called context component call answer) = false

-- the changes that calls make are reflexive and transitive
pub record IsMotion {Context : Type 0} (conduct : Conduct Context) : Type 0 where
  pub stands : (context : Context) → conduct.Moves context context
  pub goes_on : (before between after : Context) → conduct.Moves before between → conduct.Moves between after → conduct.Moves before after

-- calls keep the context path
abbrev pub KeepsPath : {Context : Type 0} → (Context → List ℕ) → Conduct Context → Type 0
KeepsPath {Context} path_of conduct = (before after : Context) → conduct.Moves before after → path_of after ≡ path_of before

-- an edit keeps a context's path and its sessions
pub record EditsAlone {Context : Type 0} (path_of : Context → List ℕ) (conduct : Conduct Context) : Type 0 where
  pub path : (before after : Context) (edit : Edit) (answer : Result ℕ EditFault) → conduct.Edits before edit answer after → path_of after ≡ path_of before
  pub sessions : (before after : Context) (edit : Edit) (answer : Result ℕ EditFault)
      → conduct.Edits before edit answer after → conduct.sessions_of after ≡ conduct.sessions_of before

module _ {Context Words : Type 0} (theory : Theory Context Words) where
  abbrev pub AreSettled : ℕ → List Context → Type 0
  AreSettled moment contexts = AllByRecursion (HasNoneExpired theory moment) contexts

  -- exactly the expired sessions end
  pub record EndsExpired : Type 0 where
    -- after the expired sessions have ended, none has expired
    pub settles : (context after : Context) (moment : ℕ) (told : List Entry)
        → theory.conduct.Expires context moment told after → HasNoneExpired theory moment after
    -- if no session has expired, then expiry is possible, adds no entry and changes nothing
    pub stays : (context : Context) (moment : ℕ) → HasNoneExpired theory moment context → theory.conduct.Expires context moment [] context
    pub ends_nothing : (context after : Context) (moment : ℕ) (told : List Entry)
        → HasNoneExpired theory moment context → theory.conduct.Expires context moment told after → (told ≡ []) × (after ≡ context)
    -- a request leaves no session that has expired at the request's own time
    pub keeps : (handling : Handling Context) → theory.conduct.Handles handling
        → HasNoneExpired theory handling.request.moment handling.context → HasNoneExpired theory handling.request.moment handling.after

  -- the outcome of a request
  abbrev pub outcome_of : Handling Context → Outcome
  outcome_of handling = outcome (theory.conduct.findings handling.context handling.request)

  -- the entry of its outcome
  abbrev pub entry_of : Handling Context → Entry
  entry_of handling =
      outcome_entry (theory.path_of handling.context)
      (path_within (theory.path_of handling.context) handling.request.canon.path) (outcome_of handling)

  -- the first entry reports the outcome of the request, and no other entry reports an outcome
  pub record StartsWithOutcome (handling : Handling Context) : Type 0 where
    pub behind : List Entry
    pub are : handling.entries ≡ entry_of handling ∷ behind
    pub no_other : filter is_outcome behind ≡ []

  -- a request has exactly one outcome, which is reported; expiry reports none
  pub record TellsOutcomes : Type 0 where
    pub tells : (handling : Handling Context) → theory.conduct.Handles handling → StartsWithOutcome handling
    pub ends_silently : (context after : Context) (moment : ℕ) (told : List Entry)
        → theory.conduct.Expires context moment told after → filter is_outcome told ≡ []

  -- the session with that number holds that caller
  abbrev pub Holds : ℕ → ℕ → Context → Type 0
  Holds number caller context = HoldsCaller number caller (theory.conduct.sessions_of context)

  -- the request was a login on that session as that caller, whose name and password it sent
  pub record LogsIn (number caller : ℕ) (handling : Handling Context) : Type 0 where
    pub target : Option (List ℕ)
    pub passed : outcome_of handling ≡ outcomes.LoggedIn number target
    pub fits : theory.conduct.caller_sent handling.context handling.request ≡ Some caller

  -- a session gets a caller only by a login
  pub record GivesCallersByLogin : Type 0 where
    pub by_login : (handling : Handling Context) (number caller : ℕ) → theory.conduct.Handles handling → Holds number caller handling.after
        → Holds number caller handling.context ⊎ LogsIn number caller handling
    pub not_by_expiry : (context after : Context) (moment : ℕ) (told : List Entry) (number caller : ℕ)
        → theory.conduct.Expires context moment told after → Holds number caller after → Holds number caller context

  -- requests and expiry change the sessions only by calls
  pub record ChangesSessionsByCalls : Type 0 where
    pub by_request : (handling : Handling Context) → theory.conduct.Handles handling
        → ChangedByCalls (theory.conduct.sessions_of handling.context) (theory.conduct.sessions_of handling.after)
    pub by_expiry : (context after : Context) (moment : ℕ) (told : List Entry)
        → theory.conduct.Expires context moment told after → ChangedByCalls (theory.conduct.sessions_of context) (theory.conduct.sessions_of after)

  -- the constraints and the path are unchanged
  pub record KeepsConstraints (before after : Context) : Type 0 where
    pub path : theory.path_of after ≡ theory.path_of before
    pub policy : theory.conduct.policy_of after ≡ theory.conduct.policy_of before

  -- an edit changes the current constraints by its outcome, and nothing else changes them
  pub record ChangesConstraintsByEdits : Type 0 where
    pub edits : (before after : Context) (edit : Edit) (answer : Result ℕ EditFault)
        → theory.conduct.Edits before edit answer after
        → GivesOutcome (theory.conduct.policy_of before) (theory.conduct.policy_of after) answer (edit_outcome (theory.conduct.policy_of before) edit)
    pub by_request : (handling : Handling Context) → theory.conduct.Handles handling → KeepsConstraints handling.context handling.after
    pub by_expiry : (context after : Context) (moment : ℕ) (told : List Entry)
        → theory.conduct.Expires context moment told after → KeepsConstraints context after
