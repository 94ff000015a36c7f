use Rattle.std.proofs.Common.{◌++◌, ap, codes}
use Rattle.sv_program.proofs.command_fault.CommandFault.detail.Goals as goal

pub returns-in-Class : goal.returns-in-Class
returns-in-Class c =
    rw c.in-Class.is
    (c.text.result.now, c.text.ensures, ap (λ known. codes "  " ++ (c.text.result.now ++ (codes ": the program has " ++ known))) c.as_str-in-Class.ensures)
