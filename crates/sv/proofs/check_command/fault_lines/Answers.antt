use Rattle.std.proofs.Common.{string_bytes}
use Rattle.sv.proofs.CheckLines.{one_more}
use Rattle.sv.proofs.check_command.fault_lines.Goals as goal

pub loop-fault-preserved : goal.loop-fault-preserved
loop-fault-preserved c =
    one_more c.args.faults.now c.loop-fault.fault-index c.fault-item.result c.loop-fault-test.true c.fault-item.is
    (string_bytes c.loop-fault.text) (string_bytes c.push_fault.new.text) c.loop-fault.invariant c.in_ok-push_fault.ensures
