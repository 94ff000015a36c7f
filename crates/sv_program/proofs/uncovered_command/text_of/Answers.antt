use Rattle.sv_program.proofs.UncoveredRun.{without_server}
use Rattle.sv_program.proofs.uncovered_command.text_of.Goals as goal

pub returns-in_err-server : goal.returns-in_err-server
returns-in_err-server g c =
    without_server g.S.FileStore.gives_text c.args.config.now c.in_err-server.field-0.0 c.from_residual.result c.args.store.now c.read_server_file.new.store
    c.in_err-server.ensures.reads c.from_residual.ensures.1
