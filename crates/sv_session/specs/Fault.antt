-- The names and numbers of faults.
use Rattle.std.specs.Prelude.{ℕ, List, codes}
use Rattle.sv_session.specs.declared.session_fault.SessionFault.{SessionFault}
use Rattle.sv_session.specs.declared.session_fault.SessionFault.TheVariants.{TooMany, SerialSpent, NoSuch, NoMemory, TooLarge}

abbrev pub fault_name : SessionFault → List ℕ
fault_name TooMany = codes "TooMany"
fault_name SerialSpent = codes "SerialSpent"
fault_name NoSuch = codes "NoSuch"
fault_name NoMemory = codes "no memory"
fault_name TooLarge = codes "TooLarge"

abbrev pub fault_number : SessionFault → ℕ
fault_number TooMany = 1
fault_number SerialSpent = 2
fault_number NoSuch = 3
fault_number NoMemory = 4
fault_number TooLarge = 5
