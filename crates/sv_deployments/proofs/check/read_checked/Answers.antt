use Rattle.sv_deployments.proofs.ServerReadings.{is_checked}
use Rattle.sv_deployments.proofs.check.read_checked.Goals as goal

pub returns : goal.returns
returns g c =
    is_checked g.S.FileStore.gives_text g.S.FolderStore.gives_files c.args.config.now c.in_ok-check_contexts.field-0
    c.in_ok-server.server c.in_ok-texts.texts c.in_ok-found.found c.args.store.now c.read_server_file.new.store c.read_contexts.new.store c.read_folders.new.store
    c.in_ok-server.ensures.reads c.in_ok-texts.ensures c.in_ok-found.ensures c.in_ok-check_contexts.ensures
