-- The text that is printed for a refused edit, and its number.
use Rattle.std.specs.Prelude.{ℕ, List, codes}
use Rattle.sv_policy.specs.declared.edit_fault.EditFault.{EditFault}
use Rattle.sv_policy.specs.declared.edit_fault.EditFault.TheVariants.{NoSuch, TooMany, NumberSpent, NoMemory}

abbrev pub edit_fault_text : EditFault → List ℕ
edit_fault_text NoSuch = codes "NoSuch"
edit_fault_text TooMany = codes "TooMany"
edit_fault_text NumberSpent = codes "NumberSpent"
edit_fault_text NoMemory = codes "no memory"

abbrev pub edit_fault_number : EditFault → ℕ
edit_fault_number NoSuch = 1
edit_fault_number TooMany = 2
edit_fault_number NumberSpent = 3
edit_fault_number NoMemory = 4
