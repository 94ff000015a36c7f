-- The assumptions of a container's run: how a context expires sessions, handles requests and takes edits, and how
-- random words are drawn.
use Rattle.std.specs.Prelude.{ℕ, List, Option, Result}
use Rattle.sv_journal.specs.declared.entry.Entry.{Entry}
use Rattle.sv_login.specs.Outcome.{Findings}
use Rattle.sv_policy.specs.Compiled.{Standing}
use Rattle.sv_policy.specs.declared.edit.Edit.{Edit}
use Rattle.sv_policy.specs.declared.edit_fault.EditFault.{EditFault}
use Rattle.sv_session.specs.Expiry as expiry
use Rattle.sv_session.specs.Store.{Store}
use Rattle.sv_uri.specs.declared.path.Canon.{Canon}
use Rattle.sv_message.specs.declared.message.Message.{Message}
use Rattle.sv_message.specs.declared.response.Response.{Response}

-- a message that a context handles, the canonical path and query of its target, the time, and the pair of random words
-- that it was given
pub record Request : Type 0 where
  pub message : Message
  pub canon : Canon
  pub moment : ℕ
  pub words : ℕ × ℕ

-- a request that a context handled: the context before and after it, the entries of the journal, and the response
pub record Handling (Context : Type 0) : Type 0 where
  pub context : Context
  pub request : Request
  pub entries : List Entry
  pub response : Response
  pub after : Context

-- the behavior of one context. A context is one value, which includes its components and its sessions
pub record Conduct (Context : Type 0) : Type 1 where
  pub sessions_of : Context → Store
  -- its current constraints
  pub policy_of : Context → Standing
  -- the findings about a request, which decide its outcome
  pub findings : Context → Request → Findings
  -- the number of the user who is logged in to the session that a message's cookies name, if any
  pub caller_of : Context → Message → Option ℕ
  -- the caller whose name and password a request sends as a login does, if they fit one
  pub caller_sent : Context → Request → Option ℕ
  -- the handling of a request
  pub Handles : Handling Context → Type 0
  -- memory runs out during the request, and leaves the context in the last state
  pub CutsShort : Context → Request → Context → Type 0
  -- the sessions that have expired at the time end, with the entries about them
  pub Expires : Context → ℕ → List Entry → Context → Type 0
  -- an edit of its constraints, with its answer
  pub Edits : Context → Edit → Result ℕ EditFault → Context → Type 0
  -- some calls change its components, but neither its deployment nor its constraints
  pub Moves : Context → Context → Type 0

pub record Theory (Context Words : Type 0) : Type 1 where
  -- the context path
  pub path_of : Context → List ℕ
  pub conduct : Conduct Context
  -- a pair of random words is drawn
  pub Draws : Words → ℕ × ℕ → Words → Type 0

abbrev pub theory_of : {Context Words : Type 0} → (Context → List ℕ) → Conduct Context → (Words → ℕ × ℕ → Words → Type 0) → Theory Context Words
theory_of path_of conduct draws = record { path_of = path_of; conduct = conduct; Draws = draws }

abbrev pub request_of : Message → Canon → ℕ → ℕ × ℕ → Request
request_of message canon moment words = record { message = message; canon = canon; moment = moment; words = words }

module _ {Context Words : Type 0} (theory : Theory Context Words) where
  -- no session of the context has expired at the time
  abbrev pub HasNoneExpired : ℕ → Context → Type 0
  HasNoneExpired moment context = expiry.HasNoneExpired moment (theory.conduct.sessions_of context)
