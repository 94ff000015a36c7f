use Rattle.sv_text.proofs.LastSlash.{front-shorter}
use Rattle.sv_mapping.proofs.ContextIndexCuts.{serves-cut, serves-none}
use Rattle.sv_mapping.proofs.context_places.outer.Goals as goal

pub returns-in-Some-clause-serves : goal.returns-in-Some-clause-serves
returns-in-Some-clause-serves c = λ context. serves-cut c.args.path.now c.in-Some.front.now _ context c.in-Some.ensures.cases

pub returns-in-Some-clause-shorter : goal.returns-in-Some-clause-shorter
returns-in-Some-clause-shorter c = front-shorter c.args.path.now c.in-Some.front.now _ c.in-Some.ensures.cases

pub returns-in-None-clause-serves : goal.returns-in-None-clause-serves
returns-in-None-clause-serves c = λ context. serves-none c.args.path.now context c.in-None.ensures.cases
