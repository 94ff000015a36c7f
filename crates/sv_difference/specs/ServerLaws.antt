-- What a report says of the answers of two servers (Jakarta Servlet 6.0, sections 10.5, 12.1, 13.6.3 and 13.8).
use Rattle.std.specs.Prelude.{◌≡◌, ◌≢◌, ℕ, Bool, ◌&&◌, false, List, [], Option, Some, All, Ok, if◌then◌else◌, IsTrue}
use Rattle.std.specs.Option.{option_map_or}
use Rattle.sv_mapping.specs.Protected.{is_protected}
use Rattle.sv_mapping.specs.Within.{path_within}
use Rattle.sv_realm.specs.declared.caller.Caller.{Caller}
use Rattle.sv_uri.specs.Canonical.{canonical}
use Rattle.sv_uri.specs.declared.path.Canon.{Canon}
use Rattle.sv_audit.specs.Configurations.{Configuration, HasUrlPatterns, fate_of}
use Rattle.sv_difference.specs.DifferenceLaws.{IsOf, IsRight}
use Rattle.sv_audit.specs.Reading.{Kind}
use Rattle.sv_difference.specs.declared.difference.Difference.{Difference}
use Rattle.sv_findings.specs.Reach.{chosen_path}
use Rattle.sv_difference.specs.ServerDifference.{context_at, difference_at, paths_of, server_difference}
use Rattle.sv_difference.specs.declared.contexts.ComparedContext.{ComparedContext}
use Rattle.sv_difference.specs.declared.contexts.ContextDifference.{ContextDifference}
use Rattle.sv_difference.specs.declared.contexts.ContextSide.{ContextSide}

-- What happens to a request: no context serves it, or the context with this path does, and the request logs in, is for a
-- folder that is never served, or has a fate by the constraints.
pub data Outcome : Type 0 where
  NoContext : Outcome
  LogsIn : List ℕ → Outcome
  IsHidden : List ℕ → Outcome
  HasFate : List ℕ → Kind → Outcome

-- A test of the method and the canonical path of requests: whether they log in, if the context has a login
-- configuration. The laws hold for each such test, also for POST to `j_security_check`.
abbrev pub LoginTest : Type 0
LoginTest = List ℕ → List ℕ → Bool

abbrev pub configuration_of : ComparedContext → Configuration
configuration_of context = record { constraints = context.constraints; rules = context.rules; has_login = context.has_login }

-- The outcome in the context that serves the path.
abbrev pub outcome_in : LoginTest → ComparedContext → List ℕ → List ℕ → List ℕ → Option Caller → Outcome
outcome_in logs_in context its_path method path visitor =
    if context.has_login && logs_in method path then LogsIn its_path
    else if is_protected (path_within its_path path) then IsHidden its_path
    else HasFate its_path (fate_of (configuration_of context) method (path_within its_path path) visitor)

abbrev pub outcome_at : LoginTest → List ComparedContext → List ℕ → List ℕ → Option Caller → List ℕ → Outcome
outcome_at logs_in contexts method path visitor its_path = option_map_or (λ context. outcome_in logs_in context its_path method path visitor) (context_at contexts its_path) NoContext

-- What happens to a visitor's request for a canonical path. The longest context path that matches its start is chosen.
abbrev pub outcome : LoginTest → List ComparedContext → List ℕ → List ℕ → Option Caller → Outcome
outcome logs_in contexts method path visitor = option_map_or (outcome_at logs_in contexts method path visitor) (chosen_path (paths_of contexts) path) NoContext

-- Each request of each visitor has the same outcome with both servers.
abbrev pub HaveSameOutcomes : List ComparedContext → List ComparedContext → Type 0
HaveSameOutcomes befores afters = (logs_in : LoginTest) (target : List ℕ) (canon : Canon) (method : List ℕ) (visitor : Option Caller) → canonical target ≡ Ok canon →
    outcome logs_in befores method canon.path visitor ≡ outcome logs_in afters method canon.path visitor

-- Nothing differs at a context path: both sides have a context, both or none with a login configuration, and there is no
-- difference.
pub record IsUnchanged (context : ContextDifference) : Type 0 where
  pub one : ContextSide
  pub other : ContextSide
  pub was : context.before ≡ Some one
  pub becomes : context.after ≡ Some other
  pub login : one.has_login ≡ other.has_login
  pub none : context.differences ≡ []

abbrev pub HaveUrlPatterns : List ComparedContext → Type 0
HaveUrlPatterns contexts = (context : ComparedContext) (path : List ℕ) → context_at contexts path ≡ Some context → HasUrlPatterns (configuration_of context)

-- If nothing differs by the report, each request of each visitor has the same outcome.
abbrev pub UnchangedHaveSameOutcomes : Type 0
UnchangedHaveSameOutcomes = (befores afters : List ComparedContext) → HaveUrlPatterns befores → HaveUrlPatterns afters →
    All IsUnchanged (server_difference befores afters).contexts → HaveSameOutcomes befores afters

-- The request is one of the difference at the context path, the contexts with this path serve it, and it neither logs in
-- nor is for a hidden folder.
pub record IsServed (befores afters : List ComparedContext) (its_path : List ℕ) (one other : Configuration) (difference : Difference) (logs_in : LoginTest) (method path : List ℕ) : Type 0 where
  pub chosen_before : chosen_path (paths_of befores) path ≡ Some its_path
  pub chosen_after : chosen_path (paths_of afters) path ≡ Some its_path
  pub shown : is_protected (path_within its_path path) ≡ false
  pub decided : logs_in method path ≡ false
  pub is_of : IsOf one other difference method (path_within its_path path)

-- For some visitor, each of these requests has another outcome before than after.
abbrev pub ChangesOutcomes : List ComparedContext → List ComparedContext → List ℕ → Configuration → Configuration → Difference → Type 0
ChangesOutcomes befores afters its_path one other difference = (visitor : Option Caller) × ((logs_in : LoginTest) (method path : List ℕ) → IsServed befores afters its_path one other difference logs_in method path →
    outcome logs_in befores method path visitor ≢ outcome logs_in afters method path visitor)

-- Each difference of the report says what both constraints decide, and changes the outcome of each of its requests that
-- the contexts serve.
abbrev pub ReportedDifferencesAreRight : Type 0
ReportedDifferencesAreRight = (befores afters : List ComparedContext) (path : List ℕ) (before after : ComparedContext) → HaveUrlPatterns befores → HaveUrlPatterns afters →
    context_at befores path ≡ Some before → context_at afters path ≡ Some after →
    All (λ difference. IsRight (configuration_of before) (configuration_of after) difference × ChangesOutcomes befores afters path (configuration_of before) (configuration_of after) difference)
    (difference_at befores afters path).differences

-- If only one of two contexts with the same path has a login configuration, requests log in only there.
abbrev pub LoginsChangeOutcomes : Type 0
LoginsChangeOutcomes = (contexts others : List ComparedContext) (its_path : List ℕ) (context other : ComparedContext) → context_at contexts its_path ≡ Some context → context_at others its_path ≡ Some other →
    IsTrue context.has_login → other.has_login ≡ false → (logs_in : LoginTest) (method path : List ℕ) (visitor : Option Caller) → chosen_path (paths_of contexts) path ≡ Some its_path →
    chosen_path (paths_of others) path ≡ Some its_path → IsTrue (logs_in method path) → (outcome logs_in contexts method path visitor ≡ LogsIn its_path) × (outcome logs_in others method path visitor ≢ LogsIn its_path)
