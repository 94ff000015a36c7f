-- The file servlet, which answers if no servlet is mapped (Jakarta Servlet 6.0, sections 9.3, 10.10 and 12.2).
use Rattle.std.specs.Prelude.{ℕ, List, [], length, codes, if◌then◌else◌}
use Rattle.sv_exchange.specs.Changing.{SetHeader, SetStatus, Write, has_room}
use Rattle.sv_mapping.specs.declared.kind.Kind.{Kind}
use Rattle.sv_mapping.specs.declared.kind.Kind.TheVariants as kinds
use Rattle.sv_tree.specs.Does.{Does, ◌>>◌, becomes, choose, gives, makes, sees}
use Rattle.sv_tree.specs.Endings.{faults, is_missing, is_not_allowed}
use Rattle.sv_tree.specs.Site.{Files, Site, FileAnswer, File, Redirect, Missing, NotAllowed}
use Rattle.sv_tree.specs.State.{Exchange, on_exchange}
use Rattle.sv_tree.specs.declared.finished.DispatchFault.TheVariants.{MissingInclude, TooLarge}
use Rattle.sv_tree.specs.declared.finished.Finished.{Finished}
use Rattle.sv_tree.specs.declared.finished.Finished.TheVariants.{Done}
use Rattle.sv_tree.specs.declared.limits.TheConstants.{FOUND}

-- The exchange with an empty buffer, unless the response is committed.
abbrev pub emptied : Exchange → Exchange
emptied exchange = if exchange.committed then exchange else record exchange { buffer = [] }

module _ (site : Site) where
  -- Sends a file: its type, and its bytes if they fit in the body.
  abbrev pub Sends : List ℕ → List ℕ → Does Finished
  Sends content_type bytes = do
    makes (SetHeader (codes "content-type") content_type)
    sees λ state. choose (has_room (length bytes) state.exchange) (makes (Write bytes) >> gives Done) (faults site Files TooLarge)

  -- Redirects the client.
  abbrev pub SendsTo : List ℕ → Does Finished
  SendsTo location = do
    becomes (on_exchange emptied)
    makes (SetStatus FOUND)
    makes (SetHeader (codes "location") location)
    gives Done

  -- A path that has no file. An include of it fails.
  abbrev pub Misses : Kind → Does Finished
  Misses kinds.Include = faults site Files MissingInclude
  Misses kinds.Request = is_missing site Files
  Misses kinds.Forward = is_missing site Files
  Misses kinds.Error = is_missing site Files

  abbrev pub Filed : Kind → FileAnswer → Does Finished
  Filed kind (File content_type bytes) = Sends content_type bytes
  Filed kind (Redirect location) = SendsTo location
  Filed kind Missing = Misses kind
  Filed kind NotAllowed = is_not_allowed site Files
