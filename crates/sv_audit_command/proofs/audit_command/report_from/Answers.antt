use Rattle.sv_audit_command.proofs.AuditRun.{with_report, without_server}
use Rattle.sv_audit_command.proofs.audit_command.report_from.Goals as goal

pub returns-in_err-server : goal.returns-in_err-server
returns-in_err-server g c =
    without_server g.S.FileStore.gives_text g.S.FolderStore.gives_files c.args.options.now c.args.config.now c.in_err-server.field-0.0 c.from_residual.result c.args.store.now c.read_server_file.new.store
    c.in_err-server.ensures.reads c.from_residual.ensures.1

pub returns : goal.returns
returns g c =
    with_report g.S.FileStore.gives_text g.S.FolderStore.gives_files c.args.options.now c.args.config.now c.in_ok-server.server c.in_ok-texts.texts c.in_ok-found.found c.as_slice.result.now c.in_ok-files.files c.report_on.result
    c.args.store.now c.read_server_file.new.store c.read_contexts.new.store c.read_folders.new.store c.read_further.new.store
    c.in_ok-server.ensures.reads c.in_ok-texts.ensures c.in_ok-found.ensures c.in_ok-files.ensures c.as_slice.ensures c.report_on.ensures
