-- What two configurations of a server decide differently (Jakarta Servlet 6.0, sections 12.1, 13.6 and 13.8).
use Rattle.std.specs.Prelude.{ℕ, List, [], ◌++◌, filter, find, length, map, is_none, Option, None, Some}
use Rattle.std.specs.List.{flat_map}
use Rattle.std.specs.Option.{option_map}
use Rattle.std.specs.Str.{bytes_eq}
use Rattle.sv_difference.specs.Differences.{differences, of_kind, patterns_of}
use Rattle.sv_audit.specs.Rows.{table_of}
use Rattle.sv_difference.specs.declared.difference.Difference.{Difference}
use Rattle.sv_audit.specs.declared.visitors.DifferenceKind.TheVariants.{Opened}
use Rattle.sv_difference.specs.declared.difference.Side.{Side}
use Rattle.sv_difference.specs.ShownPaths.{shown_paths}
use Rattle.sv_difference.specs.declared.contexts.ComparedContext.{ComparedContext}
use Rattle.sv_difference.specs.declared.contexts.ContextDifference.{ContextDifference}
use Rattle.sv_difference.specs.declared.contexts.ContextSide.{ContextSide}
use Rattle.sv_difference.specs.declared.contexts.ServerDifference.{ServerDifference}

-- The context with the path, if there is one.
abbrev pub context_at : List ComparedContext → List ℕ → Option ComparedContext
context_at contexts path = find (λ context. bytes_eq context.path path) contexts

abbrev pub paths_of : List ComparedContext → List (List ℕ)
paths_of contexts = map (λ context. context.path) contexts

-- The context paths of both servers: those of the first, then those that only the second has.
abbrev pub compared_paths : List ComparedContext → List ComparedContext → List (List ℕ)
compared_paths befores afters = paths_of befores ++ filter (λ path. is_none (context_at befores path)) (paths_of afters)

abbrev pub shown_side : ComparedContext → ContextSide
shown_side context = record { file = context.file; has_login = context.has_login }

abbrev pub side_of : ComparedContext → Side
side_of context = record { table = table_of context.constraints context.rules; has_login = context.has_login }

-- The differences of two contexts with this path, given the context paths of both servers.
abbrev pub found_between : List (List ℕ) → List (List ℕ) → List ℕ → Side → Side → List Difference
found_between befores afters path one other = differences (shown_paths befores afters path (patterns_of one other)) one other

-- The differences of two contexts at the paths that requests have on both servers, if both sides have such a context.
abbrev pub differences_between : List ComparedContext → List ComparedContext → List ℕ → Option ComparedContext → Option ComparedContext → List Difference
differences_between befores afters path None after = []
differences_between befores afters path (Some before) None = []
differences_between befores afters path (Some before) (Some after) = found_between (paths_of befores) (paths_of afters) path (side_of before) (side_of after)

-- What differs at a context path.
abbrev pub difference_at : List ComparedContext → List ComparedContext → List ℕ → ContextDifference
difference_at befores afters its_path = record {
  path = its_path;
  before = option_map shown_side (context_at befores its_path);
  after = option_map shown_side (context_at afters its_path);
  differences = differences_between befores afters its_path (context_at befores its_path) (context_at afters its_path);
}

abbrev pub all_differences : List ComparedContext → List ComparedContext → List ContextDifference
all_differences befores afters = map (difference_at befores afters) (compared_paths befores afters)

-- The differences of contexts that let visitors in.
abbrev pub opened_in : List ContextDifference → List Difference
opened_in contexts = flat_map (λ context. of_kind Opened context.differences) contexts

-- The report on two servers.
abbrev pub server_difference : List ComparedContext → List ComparedContext → ServerDifference
server_difference befores afters = record { contexts = all_differences befores afters; opened = length (opened_in (all_differences befores afters)) }
