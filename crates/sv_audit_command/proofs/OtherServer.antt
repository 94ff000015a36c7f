-- The contexts of a server file.
use Rattle.std.proofs.Common.{◌≡◌, ℕ, List, Ok, refl}
use Rattle.sv_descriptor.specs.Server.{located_server}
use Rattle.sv_descriptor.specs.declared.server.Server.{Server}
use Rattle.sv_program.specs.Configuration.{server_in}
use Rattle.sv_program.specs.ConfigurationFiles.{contexts_in}

pub its_contexts : (name text : List ℕ) (server : Server) → located_server text ≡ Ok server → server.contexts ≡ contexts_in (server_in name (Ok text))
its_contexts name text server is = rw is refl
