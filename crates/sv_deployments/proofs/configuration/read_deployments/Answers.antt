use Rattle.std.proofs.Common.{map, refl}
use Rattle.sv_deployments.specs.Deployments.{deployment}
use Rattle.sv_deployments.proofs.Finding.{fault_ends, is_configured, without_server}
use Rattle.sv_deployments.proofs.configuration.read_deployments.Goals as goal

pub returns-in_err-port-clause-finds : goal.returns-in_err-port-clause-finds
returns-in_err-port-clause-finds g c =
    without_server g.S.FileStore.gives_text g.S.FolderStore.gives_files c.args.config.now c.in_err-port.field-0.0 c.from_residual.result c.args.store.now c.read_server_file.new.store
    c.in_err-port.ensures.reads c.from_residual.ensures.1

pub returns-in_err-deployments-clause-finds : goal.returns-in_err-deployments-clause-finds
returns-in_err-deployments-clause-finds g c =
    fault_ends g.S.FileStore.gives_text g.S.FolderStore.gives_files c.args.config.now c.in_err-deployments.field-0.0 c.from_residual-in_err-deployments.result
    c.in_ok-port.field-0 c.in_ok-texts.texts c.in_ok-found.found c.args.store.now c.read_server_file.new.store c.read_contexts.new.store c.read_folders.new.store
    c.in_ok-port.ensures.reads c.in_ok-texts.ensures c.in_ok-found.ensures c.in_err-deployments.ensures c.from_residual-in_err-deployments.ensures.1

pub returns-clause-finds : goal.returns-clause-finds
returns-clause-finds g c =
    is_configured g.S.FileStore.gives_text g.S.FolderStore.gives_files c.args.config.now
    (record { port = c.in_ok-port.field-0.port; seed = c.in_ok-port.field-0.seed; deployments = c.in_ok-deployments.deployments })
    c.in_ok-port.field-0 c.in_ok-texts.texts c.in_ok-found.found (map deployment c.in_ok-deployments.deployments.items) c.args.store.now c.read_server_file.new.store c.read_contexts.new.store c.read_folders.new.store
    c.in_ok-port.ensures.reads c.in_ok-texts.ensures c.in_ok-found.ensures c.in_ok-deployments.ensures refl
