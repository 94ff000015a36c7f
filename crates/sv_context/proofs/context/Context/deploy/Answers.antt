use Rattle.sv_context.proofs.context.Context.deploy.Goals as goal

pub returns-in-Err : goal.returns-in-Err
returns-in-Err g c = c.without_tables.ensures c.args.journal.now
