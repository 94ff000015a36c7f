use Rattle.sv_deployments.proofs.Checking.{known_classes, unknown_class}
use Rattle.sv_deployments.proofs.check.take_classes.Goals as goal

pub returns-in-Some-2 : goal.returns-in-Some-2
returns-in-Some-2 c =
    known_classes c.args.app c.in-Some.field-0 c.args.faults.now.items c.take.new.faults.items c.in_ok-take.field-0 c.in-Some-2.field-0 c.in-Some.is c.in_ok-take.ensures c.in-Some-2.is

pub returns-in-None : goal.returns-in-None
returns-in-None c =
    unknown_class c.args.app c.in-Some.field-0 c.args.faults.now.items c.take.new.faults.items c.in_ok-take.field-0 c.in-Some.is c.in_ok-take.ensures c.in-None.is
