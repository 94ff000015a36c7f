-- The names, the response statuses and the numbers of faults.
use Rattle.std.specs.Prelude.{ℕ, List, codes}
use Rattle.sv_exchange.specs.declared.exchange_fault.ExchangeFault.{ExchangeFault}
use Rattle.sv_exchange.specs.declared.exchange_fault.ExchangeFault.TheVariants.{Committed, TooManySessions, SerialSpent, NoSession, NoMemory, BadHeader, TooLarge}

abbrev pub fault_name : ExchangeFault → List ℕ
fault_name Committed = codes "Committed"
fault_name TooManySessions = codes "TooManySessions"
fault_name SerialSpent = codes "SerialSpent"
fault_name NoSession = codes "NoSession"
fault_name NoMemory = codes "NoMemory"
fault_name BadHeader = codes "BadHeader"
fault_name TooLarge = codes "TooLarge"

-- The status with which a component can respond to a fault (RFC 9110, section 15.6): 503 if the server is full for now,
-- else 500.
abbrev pub fault_status : ExchangeFault → ℕ
fault_status Committed = 500
fault_status TooManySessions = 503
fault_status SerialSpent = 500
fault_status NoSession = 500
fault_status NoMemory = 503
fault_status BadHeader = 500
fault_status TooLarge = 500

abbrev pub fault_number : ExchangeFault → ℕ
fault_number Committed = 1
fault_number TooManySessions = 2
fault_number SerialSpent = 3
fault_number NoSession = 4
fault_number NoMemory = 5
fault_number BadHeader = 6
fault_number TooLarge = 7
