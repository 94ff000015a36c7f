use Rattle.sv_text.proofs.LastSlash.{below-cut, below-none, front-shorter}
use Rattle.sv_files.proofs.index.folder_of.Goals as goal

pub returns-in-Some-clause-folders : goal.returns-in-Some-clause-folders
returns-in-Some-clause-folders c = λ outer. below-cut c.args.path.now c.in-Some.folder.now _ outer c.in-Some.ensures.cases

pub returns-in-Some-clause-shorter : goal.returns-in-Some-clause-shorter
returns-in-Some-clause-shorter c = front-shorter c.args.path.now c.in-Some.folder.now _ c.in-Some.ensures.cases

pub returns-in-None-clause-folders : goal.returns-in-None-clause-folders
returns-in-None-clause-folders c = λ outer. below-none c.args.path.now outer c.in-None.ensures.cases
