use Rattle.std.proofs.Common.{arith}
use Rattle.std.proofs.lemmas.Grind.{common_steps}
use Rattle.sv_program.proofs.Readings.{one_context_more}
use Rattle.sv_program.proofs.configuration_files.read_contexts.Goals as goal

pub loop-context-preserved : goal.loop-context-preserved
loop-context-preserved g c = (
  grind (arith, common_steps),
  grind (arith, common_steps),
  one_context_more g.S.FileStore.gives_text c.args.config.now c.loop-context.texts.items c.push.new.self.items c.in_ok-read_context.field-0 c.args.store.now c.loop-context.store c.read_context.new.store
      c.in_ok-push.ensures.items c.loop-context.invariant.2 c.in_ok-read_context.ensures.1,
)
