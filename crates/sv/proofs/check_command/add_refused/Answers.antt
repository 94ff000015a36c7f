use Rattle.std.proofs.Common.{◌∙◌}
use Rattle.sv.proofs.CheckLines.{none_refused, one_refused}
use Rattle.sv.proofs.check_command.add_refused.Goals as goal

pub returns-in_default : goal.returns-in_default
returns-in_default c =
    none_refused c.args.contexts.now c.get.result c.get.ensures.lookup.0 c.get.ensures.lookup.1 c.args.faults.now.items c.in_default.is

pub returns : goal.returns
returns c =
    one_refused c.args.contexts.now c.get.result c.get.ensures.lookup.0 c.get.ensures.lookup.1 c.in-Some.context c.args.faults.now.items c.push.new.self.items
    c.in_ok-context.context c.in-Some.is (c.in_ok-context.ensures ∙ c.as_str.ensures) c.in_ok-push.ensures.items
