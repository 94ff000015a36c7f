-- The parts of a context that a dispatch uses and does not change: the resource and the filters for a path (Jakarta
-- Servlet 6.0, sections 6.2.4, 12.1 and 10.9.2).
use Rattle.std.specs.Prelude.{ℕ, List, [], codes, find, map, Option, None, Some, slice_index_or}
use Rattle.sv_exchange.specs.Dispatches.{entered}
use Rattle.sv_exchange.specs.Paths.{paths_at}
use Rattle.sv_exchange.specs.Paths.{Paths}
use Rattle.sv_mapping.specs.BestMatch.{is_best}
use Rattle.sv_mapping.specs.Split.{path_info, servlet_path}
use Rattle.sv_mapping.specs.declared.kind.Kind.{Kind}
use Rattle.sv_mapping.specs.declared.kind.Kind.TheVariants as kinds
use Rattle.sv_tree.specs.State.{Exchange}
pub use Rattle.sv_tree.specs.declared.site.Resource.{Resource}
pub use Rattle.sv_tree.specs.declared.site.Resource.TheVariants.{Servlet, Files}
use Rattle.sv_uri.specs.declared.path.Canon.{Canon}

-- The result of the file servlet for a path: a file with its content type and bytes, the location of a redirect,
-- nothing, or nothing that supports this method.
pub data FileAnswer : Type 0 where
  File : List ℕ → List ℕ → FileAnswer
  Redirect : List ℕ → FileAnswer
  Missing : FileAnswer
  NotAllowed : FileAnswer

-- A pattern with the index of its servlet.
pub record Mapping : Type 0 where
  pub pattern : List ℕ
  pub servlet : ℕ

pub record Site : Type 0 where
  -- The mappings, in the order of the descriptor.
  pub mappings : List Mapping
  -- The names of the servlets.
  pub names : List (List ℕ)
  -- The indexes of the filters for a path, the name of its resource, and a kind.
  pub chain : List ℕ → List ℕ → Kind → List ℕ
  -- The result of the file servlet for a path with its query, a method and a kind.
  pub file : Canon → List ℕ → Kind → FileAnswer
  -- The error page for a status and the kind of a failure.
  pub page : ℕ → Option (List ℕ) → Option Canon
  -- The number of listeners.
  pub listeners : ℕ

-- The resource for a path, and the split of the path.
pub record Chosen : Type 0 where
  pub resource : Resource
  pub servlet_path : List ℕ
  pub path_info : Option (List ℕ)

abbrev pub chosen_by : List ℕ → Option Mapping → Chosen
chosen_by path (Some mapping) = record {
  resource = Servlet mapping.servlet;
  servlet_path = servlet_path mapping.pattern path;
  path_info = path_info mapping.pattern path;
}
chosen_by path None = record { resource = Files; servlet_path = path; path_info = None }

-- The servlet of the best matching pattern, or else the file servlet.
unfoldable pub chosen : Site → List ℕ → Chosen
chosen site path = chosen_by path (find (λ mapping. is_best (map (λ other. other.pattern) site.mappings) path mapping.pattern) site.mappings)

abbrev pub name_of : Site → Resource → List ℕ
name_of site (Servlet place) = slice_index_or site.names place []
name_of site Files = codes "default"

-- The paths that the exchange shows in a dispatch to this path.
abbrev pub paths_by : Chosen → Canon → Exchange → Paths
paths_by found canon exchange = paths_at exchange.context_path canon.path (Some found.servlet_path) found.path_info canon.query

abbrev pub paths_in : Site → Canon → Exchange → Paths
paths_in site canon exchange = paths_by (chosen site canon.path) canon exchange

-- A forward begins with an empty buffer and keeps the fields (section 9.4).
abbrev pub emptied_for : Kind → Exchange → Exchange
emptied_for kinds.Forward exchange = record exchange { buffer = [] }
emptied_for kinds.Request exchange = exchange
emptied_for kinds.Include exchange = exchange
emptied_for kinds.Error exchange = exchange

-- A dispatch of this kind begins, to this path and with this split.
abbrev pub begun_by : Chosen → Kind → Canon → Exchange → Exchange
begun_by found kind canon exchange = emptied_for kind (entered kind (paths_by found canon exchange) exchange)

abbrev pub begun : Site → Kind → Canon → Exchange → Exchange
begun site kind canon = begun_by (chosen site canon.path) kind canon
