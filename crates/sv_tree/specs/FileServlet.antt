-- The file servlet's result for a path, in the dispatch model: Jakarta Servlet 6.0, sections 10.10 and 12.2.
use Rattle.std.specs.Prelude.{ℕ, List, [], ◌++◌, codes, Option}
use Rattle.std.specs.Option.{option_map_or}
use Rattle.sv_files.specs.Answer.{Answer, Content, Welcome, Slash, Missing, Method}
use Rattle.sv_files.specs.ContentType.{content_type}
use Rattle.sv_tree.specs.Site as tree
use Rattle.sv_uri.specs.LocationField.{location}
use Rattle.sv_uri.specs.declared.path.Canon.{Canon}

-- The Location field for a path within a context, followed by the query (RFC 9110, section 10.2.2).
abbrev pub sent_to : List ℕ → List ℕ → Option (List ℕ) → List ℕ
sent_to context_path path query = location (context_path ++ path) ++ option_map_or (λ text. codes "?" ++ text) query []

-- A file with its content type, or a redirect to a welcome file or to the folder with a slash appended.
abbrev pub answered : List ℕ → Canon → Answer → tree.FileAnswer
answered context_path canon (Content bytes) = tree.File (content_type canon.path) bytes
answered context_path canon (Welcome path) = tree.Redirect (sent_to context_path path canon.query)
answered context_path canon Slash = tree.Redirect (sent_to context_path (canon.path ++ codes "/") canon.query)
answered context_path canon Missing = tree.Missing
answered context_path canon Method = tree.NotAllowed
