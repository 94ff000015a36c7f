-- The fault of a class that the program does not have.
use Rattle.std.specs.Prelude.{ℕ, List, codes, Option, Some, None}
use Rattle.sv_deployments.specs.declared.class_fault.ClassFault.{ClassFault}
use Rattle.sv_deployments.specs.declared.class_fault.ClassFault.TheVariants.{UnknownClass, NoMemory}

-- the fault, unless memory ran out
abbrev pub class_fault : ClassFault → Option ClassFault
class_fault (UnknownClass class place) = Some (UnknownClass class place)
class_fault NoMemory = None

abbrev pub fault_text : ClassFault → List ℕ
fault_text (UnknownClass class place) = class
fault_text NoMemory = codes "no memory"
