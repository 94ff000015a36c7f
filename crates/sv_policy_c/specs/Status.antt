-- The numbers that the exported functions return.
use Rattle.std.specs.Prelude.{ℕ}
use Rattle.sv_policy_c.specs.declared.status.Status.{Status}
use Rattle.sv_policy_c.specs.declared.status.Status.TheVariants.{Written, Fault, Method, NoMemory, Short, NotText, Nothing}

abbrev pub number : Status → ℕ
number Written = 0
number Fault = 1
number Method = 2
number NoMemory = 3
number Short = 4
number NotText = 5
number Nothing = 6
