-- What the differences of a report say of the answers of two servers (Jakarta Servlet 6.0, sections 3.5, 10.5, 12.1 and 13.8).
use Rattle.std.specs.Prelude.{◌≡◌, ◌≢◌, ℕ, false, List, [], ◌++◌, codes, Option, Some, All, Ok, IsTrue}
use Rattle.sv_mapping.specs.Protected.{is_protected}
use Rattle.sv_mapping.specs.Within.{path_within}
use Rattle.sv_realm.specs.declared.caller.Caller.{Caller}
use Rattle.sv_constraints.specs.Covering.{covers_method, lists}
use Rattle.sv_uri.specs.Canonical.{canonical}
use Rattle.sv_uri.specs.declared.path.Canon.{Canon}
use Rattle.sv_findings.specs.Reach.{chosen_path}
use Rattle.sv_difference.specs.DifferenceText.{example_of}
use Rattle.sv_difference.specs.ServerDifference.{paths_of, server_difference}
use Rattle.sv_difference.specs.ServerLaws.{HaveSameOutcomes, HaveUrlPatterns, IsUnchanged, LoginTest, outcome}
use Rattle.sv_difference.specs.declared.contexts.ComparedContext.{ComparedContext}
use Rattle.sv_difference.specs.declared.contexts.ContextDifference.{ContextDifference}
use Rattle.sv_difference.specs.declared.difference.Difference.{Difference}

-- The example of a difference is the target of a request. Both servers choose the context with this path for it, and it is
-- for no hidden folder. There is a visitor whose requests for it, with the methods of the difference, have another outcome
-- before than after, unless they log in; and there is such a method.
pub record IsChanged (befores afters : List ComparedContext) (its_path : List ℕ) (difference : Difference) : Type 0 where
  pub canon : Canon
  pub given : canonical (example_of its_path difference) ≡ Ok canon
  pub chosen_before : chosen_path (paths_of befores) canon.path ≡ Some its_path
  pub chosen_after : chosen_path (paths_of afters) canon.path ≡ Some its_path
  pub shown : is_protected (path_within its_path canon.path) ≡ false
  pub visitor : Option Caller
  pub some : List ℕ
  pub covered : IsTrue (covers_method difference.methods some)
  pub changed : (logs_in : LoginTest) (method : List ℕ) → IsTrue (covers_method difference.methods method) → logs_in method canon.path ≡ false →
      outcome logs_in befores method canon.path visitor ≢ outcome logs_in afters method canon.path visitor

-- The example of each difference of a report shows it.
abbrev pub ReportedExamplesAreChanged : Type 0
ReportedExamplesAreChanged = (befores afters : List ComparedContext) → HaveUrlPatterns befores → HaveUrlPatterns afters →
    All (λ (context : ContextDifference). All (IsChanged befores afters context.path) context.differences) (server_difference befores afters).contexts

-- If each request has the same outcome, no context path of the report has a difference.
abbrev pub SameOutcomesHaveNoDifferences : Type 0
SameOutcomesHaveNoDifferences = (befores afters : List ComparedContext) → HaveUrlPatterns befores → HaveUrlPatterns afters → HaveSameOutcomes befores afters →
    All (λ (context : ContextDifference). context.differences ≡ []) (server_difference befores afters).contexts

-- A context path is empty, or a canonical path that does not end with a slash (section 3.5).
pub data IsContextPath (path : List ℕ) : Type 0 where
  IsRoot : path ≡ [] → IsContextPath path
  IsNamed : (target : List ℕ) (canon : Canon) → canonical target ≡ Ok canon → canon.path ≡ path → ((front : List ℕ) → path ≢ front ++ codes "/") → IsContextPath path

abbrev pub HaveContextPaths : List ComparedContext → Type 0
HaveContextPaths contexts = (path : List ℕ) → IsTrue (lists (paths_of contexts) path) → IsContextPath path

-- If each request has the same outcome, nothing differs by the report.
abbrev pub SameOutcomesAreUnchanged : Type 0
SameOutcomesAreUnchanged = (befores afters : List ComparedContext) → HaveUrlPatterns befores → HaveUrlPatterns afters → HaveContextPaths befores → HaveContextPaths afters → HaveSameOutcomes befores afters →
    All IsUnchanged (server_difference befores afters).contexts
