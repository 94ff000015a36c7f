-- Reasons for a missing explanation.
use Rattle.std.specs.Prelude.{ℕ, List, codes, Option, Some, None}
use Rattle.sv_policy.specs.declared.explain_fault.ExplainFault.{ExplainFault}
use Rattle.sv_policy.specs.declared.explain_fault.ExplainFault.TheVariants.{BadMethod, NoSuchUser, NoMemory}

-- The fault, or none if memory ran out.
abbrev pub explain_fault : ExplainFault → Option ExplainFault
explain_fault BadMethod = Some BadMethod
explain_fault NoSuchUser = Some NoSuchUser
explain_fault NoMemory = None

abbrev pub fault_name : ExplainFault → List ℕ
fault_name BadMethod = codes "BadMethod"
fault_name NoSuchUser = codes "NoSuchUser"
fault_name NoMemory = codes "NoMemory"

abbrev pub fault_number : ExplainFault → ℕ
fault_number BadMethod = 1
fault_number NoSuchUser = 2
fault_number NoMemory = 3
