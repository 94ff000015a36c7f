-- What a report tells of the requests whose answers differ between two servers (Jakarta Servlet 6.0, sections 3.5, 12.1, 13.6.3 and 13.8).
use Rattle.std.specs.Prelude.{◌≡◌, ◌≢◌, ℕ, Bool, not, false, ◌&&◌, ◌||◌, List, Option, option_and_then, Ok, if◌then◌else◌, IsTrue}
use Rattle.std.specs.List.{list_any}
use Rattle.std.specs.Option.{option_map_or}
use Rattle.sv_mapping.specs.Within.{path_within}
use Rattle.sv_realm.specs.declared.caller.Caller.{Caller}
use Rattle.sv_constraints.specs.Covering.{covers_method}
use Rattle.sv_uri.specs.Canonical.{canonical}
use Rattle.sv_uri.specs.declared.path.Canon.{Canon}
use Rattle.sv_audit.specs.Configurations.{best_of}
use Rattle.sv_audit.specs.Reading.{is_same}
use Rattle.sv_findings.specs.Reach.{serves}
use Rattle.sv_difference.specs.OpenedFirst.{is_lone}
use Rattle.sv_difference.specs.ServerDifference.{context_at, paths_of, server_difference}
use Rattle.sv_difference.specs.ServerLaws.{HaveUrlPatterns, LoginTest, configuration_of, outcome}
use Rattle.sv_difference.specs.declared.contexts.ComparedContext.{ComparedContext}
use Rattle.sv_difference.specs.declared.contexts.ContextDifference.{ContextDifference}
use Rattle.sv_difference.specs.declared.contexts.ContextSide.{ContextSide}
use Rattle.sv_difference.specs.declared.difference.Difference.{Difference}

-- Whether one of the servers gives requests for the path to the context with this path.
abbrev pub one_serves : List ComparedContext → List ComparedContext → List ℕ → List ℕ → Bool
one_serves befores afters its_path path = serves (paths_of befores) its_path path || serves (paths_of afters) its_path path

-- Whether only one of both sides has a login configuration.
abbrev pub can_log_in : Option ContextSide → Bool
can_log_in side = option_map_or (λ it. it.has_login) side false

abbrev pub logins_differ : ContextDifference → Bool
logins_differ context = if can_log_in context.before then not (can_log_in context.after) else can_log_in context.after

-- The best match of a path within the context with this path, if there is one.
abbrev pub best_in : List ComparedContext → List ℕ → List ℕ → Option (List ℕ)
best_in contexts its_path within = option_and_then (λ context. best_of (configuration_of context) within) (context_at contexts its_path)

-- Whether the difference is of the rows of a path within the context, and has the method.
abbrev pub has_request : List ComparedContext → List ComparedContext → List ℕ → List ℕ → List ℕ → Difference → Bool
has_request befores afters its_path method within difference =
    is_same difference.before (best_in befores its_path within) && is_same difference.after (best_in afters its_path within) && covers_method difference.methods method

-- Whether the report on a context path tells of requests with the method for the path. One of the servers gives them to
-- this context. And only one server has the context, or only one of both contexts has a login configuration, or a
-- difference has the request.
abbrev pub tells : List ComparedContext → List ComparedContext → List ℕ → List ℕ → ContextDifference → Bool
tells befores afters method path context =
    one_serves befores afters context.path path
    && (is_lone context || (logins_differ context || list_any (has_request befores afters context.path method (path_within context.path path)) context.differences))

-- If a visitor's request has another outcome before than after, the report tells of it.
abbrev pub ReportsAreComplete : Type 0
ReportsAreComplete = (befores afters : List ComparedContext) (logs_in : LoginTest) (target : List ℕ) (canon : Canon) (method : List ℕ) (visitor : Option Caller) → HaveUrlPatterns befores → HaveUrlPatterns afters →
    canonical target ≡ Ok canon → outcome logs_in befores method canon.path visitor ≢ outcome logs_in afters method canon.path visitor → IsTrue (list_any (tells befores afters method canon.path) (server_difference befores afters).contexts)
