-- The server file: the port, the seed for random words, and the contexts.
use Rattle.std.specs.Prelude.{◌≡◌, ℕ, true, List, [], ◌∷◌, length, map, codes, Ok}
use Rattle.std.specs.List.{All}
use Rattle.toml.specs.Data.{Members}
use Rattle.sv_descriptor.specs.Document.{document}
use Rattle.sv_text.specs.Steps.{◌>>=◌, ◌>>◌}
use Rattle.sv_descriptor.specs.Fault.{Located, Reads, without_place}
use Rattle.sv_descriptor.specs.ListOf.{list_of_tables}
use Rattle.sv_descriptor.specs.Table.{only_keys, required, optional}
use Rattle.sv_descriptor.specs.Value.{any_text, hex_text, number_between, text_of, whole_of}
use Rattle.sv_descriptor.specs.declared.limits.TheConstants.{NO_LIMIT}
use Rattle.sv_descriptor.specs.Names.{distinct, Differ}
use Rattle.sv_descriptor.specs.ContextPath.{context_path, is_context_path}
use Rattle.sv_descriptor.specs.declared.limits.TheConstants.{MAX_PORT, SEED_BYTES, SEED_DIGITS}
use Rattle.sv_descriptor.specs.declared.server.ContextEntry.{ContextEntry}
use Rattle.sv_descriptor.specs.declared.server.Server.{Server}

abbrev pub context : Members → Located ContextEntry
context table = do
  only_keys (codes "path" ∷ codes "descriptor" ∷ codes "files" ∷ codes "users" ∷ []) [] table
  its_path ← required (text_of context_path) (codes "path") table
  descriptor_file ← required (text_of any_text) (codes "descriptor") table
  folder ← required (text_of any_text) (codes "files") table
  users_file ← optional (text_of any_text) (codes "users") table
  Ok (record { path = its_path; descriptor = descriptor_file; files = folder; users = users_file })

abbrev pub context_paths : List ContextEntry → List (List ℕ)
context_paths = map (λ context. context.path)

abbrev pub server : Members → Located Server
server table = do
  only_keys (codes "port" ∷ codes "seed" ∷ codes "context" ∷ []) [] table
  its_port ← required (whole_of (number_between 0 MAX_PORT)) (codes "port") table
  its_seed ← required (text_of (hex_text SEED_DIGITS SEED_DIGITS)) (codes "seed") table
  its_contexts ← required (list_of_tables 0 NO_LIMIT context) (codes "context") table
  distinct (codes "context") (codes "path") (context_paths its_contexts)
  Ok (record { port = its_port; seed = its_seed; contexts = its_contexts })

-- The server described by a text, or the first fault with its place.
unfoldable pub located_server : List ℕ → Located Server
located_server = document server

-- The server described by a text.
abbrev pub server_of : List ℕ → Reads Server
server_of text = without_place (located_server text)

-- The properties of a server that was read.
pub record IsWellFormedServer (s : Server) : Type 0 where
  pub seed_is_whole : length s.seed ≡ SEED_BYTES
  pub paths_are_context_paths : All (λ context. is_context_path context.path ≡ true) s.contexts
  pub paths_differ : Differ (context_paths s.contexts)
