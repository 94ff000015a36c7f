use Rattle.sv_run.proofs.Contexts.{alters_none}
use Rattle.sv_run.proofs.host.Host.step.Goals as goal

pub returns-then-self-clause-alters : goal.returns-then-self-clause-alters
returns-then-self-clause-alters g c = alters_none g.C.Context.conduct g.met.C.Context.is_motion c.args.self.now.contexts

pub returns-in-Some-clause-alters : goal.returns-in-Some-clause-alters
returns-in-Some-clause-alters g c = alters_none g.C.Context.conduct g.met.C.Context.is_motion c.args.self.now.contexts
