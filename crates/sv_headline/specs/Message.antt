-- A message in its context: whether it enters, for what cause it stays out, and all that is done for it (Jakarta Servlet
-- 6.0, sections 7.1, 9.1, 10.9, 11.3, 13.6.3 and 13.8).
use Rattle.std.specs.Prelude.{◌≡◌, ◌≢◌, ◌⊎◌, ℕ, false, List, ◌∷◌, map, Option, None, Some}
use Rattle.sv_admission.specs.Answer.{answer_to}
use Rattle.sv_admission.specs.Held.{accessed, session_held}
use Rattle.sv_admission.specs.Judged.{findings, left_by_login}
use Rattle.sv_admission.specs.Settled.{Settled, session_of, settled_by}
use Rattle.sv_component.specs.Runs.{IsRun, Record, record_entry}
use Rattle.sv_component.specs.Steps.{ComponentSteps}
use Rattle.sv_constraints.specs.declared.owned_decision.OwnedDecision.TheVariants.{Open}
use Rattle.sv_constraints.specs.declared.owned_decision.OwnedWhy.{OwnedWhy}
use Rattle.sv_context.specs.Answered.{Answered}
use Rattle.sv_context.specs.Conduct.{asked_of, unnoted}
use Rattle.sv_context.specs.Handled.{state_in}
use Rattle.sv_context.specs.State.{ContextState, IsSameDeployment, world_of}
use Rattle.sv_exchange.specs.Beginning.{begun, finished}
use Rattle.sv_exchange.specs.State as exchanges
use Rattle.sv_login.specs.Outcome.{Findings}
use Rattle.sv_login.specs.OutcomeEntry.{outcome_entry}
use Rattle.sv_login.specs.OutcomeLaws.{IsCase}
use Rattle.sv_login.specs.declared.outcome.Outcome.{Outcome}
use Rattle.sv_login.specs.declared.outcome.Outcome.TheVariants.{Entered}
use Rattle.sv_login.specs.declared.step.LoginOutcome.TheVariants.{NotLogin}
use Rattle.sv_run.specs.Contexts.{Handling, Request}
use Rattle.sv_session.specs.Store.{Store}
use Rattle.sv_tree.specs.SiteOfDescriptor.{site_of}

module _ {S F L : Type 0} (context : ContextState S F L) (request : Request) where
  -- the path in the context
  abbrev pub path_in : List ℕ
  path_in = (asked_of context request).canon.path

  -- the session that the cookies name, and the sessions after it was accessed
  abbrev pub session_in : Option ℕ
  session_in = session_held context.content.app (asked_of context request) context.store

  abbrev pub sessions_in : Store
  sessions_in = accessed session_in request.moment context.store

  -- whether the path is hidden, the login step if the context has form login, and the decision of the combined
  -- constraints of the context on the method, the path and the caller of that session
  abbrev pub findings_in : Findings
  findings_in = findings context.content.app context.policy context.users (asked_of context request) session_in sessions_in

  -- the path is not hidden, the message is no login post, and the constraints allow it
  pub record MayEnter : Type 0 where
    pub shown : findings_in.is_protected ≡ false
    pub no_login : (findings_in.login ≡ None) ⊎ (findings_in.login ≡ Some NotLogin)
    pub why : OwnedWhy
    pub allowed : findings_in.verdict ≡ Open why

  -- the case of a message: a hidden path, a login post, or the decision of the constraints
  abbrev pub IsBecause : Outcome → Type 0
  IsBecause cause = IsCase findings_in cause

  -- the sessions after the message, by its outcome: a login enters its caller in its own session, and a GET that is sent to
  -- the login page saves its target
  abbrev pub settled_for : Outcome → Settled
  settled_for outcome =
      settled_by context.content.context_path (asked_of context request) session_in outcome
      (left_by_login context.content.app context.users (asked_of context request) session_in sessions_in)

  -- the exchange of the request at its beginning, with these sessions
  abbrev pub exchange_for : Outcome → exchanges.State
  exchange_for outcome =
      begun (asked_of context request) context.content.context_path context.content.app.session.cookie
      (session_of context.users (settled_for outcome)) (settled_for outcome).store

module _ {S F L : Type 0} (moving : ComponentSteps S F L) (handling : Handling (ContextState S F L)) (made : List Record) where
  -- the context handles the message with this outcome, by these calls
  pub record IsDoneBy (outcome : Outcome) : Type 0 where
    -- the journal notes the outcome, then each call and each notification of a listener, and nothing else
    pub noted : handling.entries
        ≡ outcome_entry handling.context.content.context_path (path_in handling.context handling.request) outcome
        ∷ map (record_entry (world_of handling.context unnoted)) made
    -- the calls are those that answer the outcome, on the exchange of this request
    pub exchange : exchanges.State
    pub answers : Answered (site_of handling.context.content) (asked_of handling.context handling.request).canon
        (settled_for handling.context handling.request outcome).event (answer_to handling.context.content outcome)
        (state_in handling.context (exchange_for handling.context handling.request outcome)) made (state_in handling.after exchange) (Some tt)
    -- each call moves one component by one step, and nothing else moves any
    pub moves : IsRun moving (world_of handling.context unnoted) made (world_of handling.after unnoted)
    -- the response and the sessions are those that the exchange leaves
    pub response : handling.response ≡ finished exchange
    pub sessions : handling.after.store ≡ exchange.store
    -- the constraints, the users, the descriptor and the files stay
    pub stays : IsSameDeployment handling.context handling.after

  -- the message stays out, for the cause that it has
  pub record StaysOut : Type 0 where
    pub cause : Outcome
    pub because : IsBecause handling.context handling.request cause
    pub other : cause ≢ Entered
    pub done : IsDoneBy cause

  -- a message enters exactly if it may
  abbrev pub IsLawfulMessage : Type 0
  IsLawfulMessage =
      (MayEnter handling.context handling.request × IsDoneBy Entered) ⊎ ((MayEnter handling.context handling.request → ⊥) × StaysOut)
