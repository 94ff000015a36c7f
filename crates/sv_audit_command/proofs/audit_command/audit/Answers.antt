use Rattle.std.proofs.Common.{◌≡◌}
use Rattle.sv_audit_command.proofs.AuditRun.{fault_ends, late, report_ends}
use Rattle.sv_audit_command.proofs.audit_command.audit.Goals as goal

pub returns-in_err-report-clause-run : goal.returns-in_err-report-clause-run
returns-in_err-report-clause-run g c =
    fault_ends g.S.FileStore.gives_text g.S.FolderStore.gives_files c.args.options.now c.args.config.now c.in_err-report.field-0.0 c.from_residual.result c.args.store.now c.report_from.new.store
    (g.W.Write.contents c.args.writer.now) (g.W.Write.contents c.args.writer.now) c.in_err-report.ensures c.from_residual.ensures.1

pub returns-clause-run : goal.returns-clause-run
returns-clause-run g c =
    report_ends g.S.FileStore.gives_text g.S.FolderStore.gives_files c.args.options.now c.args.config.now c.in_ok-report.report c.write_report.result c.args.store.now c.report_from.new.store
    (g.W.Write.contents c.args.writer.now) (g.W.Write.contents c.write_report.new.writer) c.in_ok-report.ensures c.write_report.ensures

pub returns-clause-untouched : goal.returns-clause-untouched
returns-clause-untouched g c =
    late (c.write_report.new.writer ≡ c.args.writer.now) c.in_ok-report.report c.write_report.result
    (g.W.Write.contents c.args.writer.now) (g.W.Write.contents c.write_report.new.writer) c.write_report.ensures
