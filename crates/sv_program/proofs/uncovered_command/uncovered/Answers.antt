use Rattle.sv_program.specs.UncoveredCommand.{IsReported}
use Rattle.sv_program.proofs.UncoveredRun.{are_asked}
use Rattle.sv_program.proofs.PrintedRun.{fault_prints}
use Rattle.sv_program.proofs.uncovered_command.uncovered.Goals as goal

pub returns-in_err-text-clause-run : goal.returns-in_err-text-clause-run
returns-in_err-text-clause-run g c =
    fault_prints (IsReported g.S.FileStore.gives_text c.args.config.now) (are_asked g.S.FileStore.gives_text c.args.config.now) c.in_err-text.field-0.0 c.from_residual.result c.args.store.now c.text_of.new.store
    (g.W.Write.contents c.args.writer.now) c.in_err-text.ensures c.from_residual.ensures.1
