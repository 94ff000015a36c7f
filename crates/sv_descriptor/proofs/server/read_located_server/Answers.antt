use Rattle.sv_descriptor.proofs.Yields.{IfOk-Gives, document-Ok}
use Rattle.sv_descriptor.specs.Server.{IsWellFormedServer, server, located_server}
use Rattle.sv_descriptor.proofs.Settings.{server-Ok}
use Rattle.sv_descriptor.proofs.server.read_located_server.Goals as goal

pub returns-clause-well_formed : goal.returns-clause-well_formed
unfolding located_server
returns-clause-well_formed c =
    IfOk-Gives IsWellFormedServer c.read_document.result (located_server c.args.text.now)
    (document-Ok IsWellFormedServer server server-Ok c.args.text.now) c.read_document.ensures
