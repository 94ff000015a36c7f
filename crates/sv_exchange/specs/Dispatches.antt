-- The dispatches of an exchange and the paths that they show (Jakarta Servlet 6.0, sections 3.5, 9.3 and 9.4).
use Rattle.std.specs.Prelude.{◌≡◌, ℕ, Bool, true, false, List, [], ◌∷◌, ◌++◌, reverse, Option, None, decimal, unwrap_or, if◌then◌else◌}
use Rattle.std.specs.List.{list_any}
use Rattle.std.specs.Option.{option_map}
use Rattle.sv_mapping.specs.declared.kind.Kind.{Kind}
use Rattle.sv_mapping.specs.declared.kind.Kind.TheVariants as kinds
use Rattle.sv_exchange.specs.declared.dispatch.Dispatch.{Dispatch}
use Rattle.sv_exchange.specs.Paths.{Paths}
use Rattle.sv_exchange.specs.declared.error.KeptError.{KeptError}
use Rattle.sv_exchange.specs.declared.error.ToldError.{ToldError}
use Rattle.sv_exchange.specs.State.{State}

abbrev pub is_include_kind : Kind → Bool
is_include_kind kinds.Include = true
is_include_kind kinds.Request = false
is_include_kind kinds.Forward = false
is_include_kind kinds.Error = false

abbrev pub is_include : Dispatch → Bool
is_include dispatch = is_include_kind dispatch.kind

-- Whether an include is active, at any depth.
abbrev pub is_within_include : State → Bool
is_within_include x = list_any is_include x.dispatches

-- The kind of the innermost dispatch.
abbrev pub innermost_kind : List Dispatch → Kind
innermost_kind [] = kinds.Request
innermost_kind (dispatch ∷ outer) = dispatch.kind

abbrev pub kind_of : State → Kind
kind_of x = innermost_kind (reverse x.dispatches)

-- The visible paths: those of the innermost dispatch that is not an include, or else the client's.
abbrev pub innermost_paths : Paths → List Dispatch → Paths
innermost_paths client [] = client
innermost_paths client (dispatch ∷ outer) = if is_include dispatch then innermost_paths client outer else dispatch.paths

abbrev pub paths_of : State → Paths
paths_of x = innermost_paths x.client (reverse x.dispatches)

abbrev pub path_of : State → List ℕ
path_of x = (paths_of x).path

abbrev pub servlet_path_of : State → List ℕ
servlet_path_of x = unwrap_or (paths_of x).servlet_path []

abbrev pub path_info_of : State → Option (List ℕ)
path_info_of x = (paths_of x).path_info

abbrev pub query_of : State → Option (List ℕ)
query_of x = (paths_of x).query

-- The client's paths after a dispatch begins. A dispatch of kind `Request` sets their servlet path and path info.
abbrev pub client_in : Kind → Paths → Paths → Paths
client_in kinds.Request paths client = record client { servlet_path = paths.servlet_path; path_info = paths.path_info }
client_in kind paths client = client

-- The description of an error for an error page (section 10.9.1).
abbrev pub told_error : KeptError → ToldError
told_error kept = record { status_code = decimal kept.status; message = kept.text; servlet_name = kept.servlet }

-- An error page gets the error that is kept when the page begins.
abbrev pub error_in : Kind → Option KeptError → Option ToldError
error_in kinds.Error kept = option_map told_error kept
error_in kind kept = None

-- A dispatch begins.
abbrev pub entered : Kind → Paths → State → State
entered kind paths before = record before {
  client = client_in kind paths before.client;
  dispatches = before.dispatches ++ (record { kind = kind; paths = paths; error = error_in kind before.kept }) ∷ [];
}

-- The last dispatch of a list ends.
abbrev pub LeavesOne : List Dispatch → List Dispatch → Type 0
LeavesOne before after = (dispatch : Dispatch) × (before ≡ after ++ dispatch ∷ [])

-- The innermost dispatch ends, and nothing else changes.
abbrev pub Leaves : State → State → Type 0
Leaves before after = (dispatch : Dispatch) × (before ≡ record after { dispatches = after.dispatches ++ dispatch ∷ [] })
