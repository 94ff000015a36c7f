-- The names and numbers of the faults, and the statuses of their responses (RFC 9110, section 15, and RFC 6585, section 5).
use Rattle.std.specs.Prelude.{ℕ, List, codes}
use Rattle.sv_wire.specs.declared.body_fault.BodyFault.{BodyFault}
use Rattle.sv_wire.specs.declared.body_fault.BodyFault.TheVariants.{BadChunk, TooLarge, TrailerTooLarge}
use Rattle.sv_wire.specs.declared.wire_fault.WireFault.{WireFault}
use Rattle.sv_wire.specs.declared.wire_fault.WireFault.TheVariants.{BadHead, BadHost, BadFraming, UnknownCoding, HeadTooLarge, BodyTooLarge, BadExpect, BadTarget}

-- The name of a fault.
abbrev pub fault_name : WireFault → List ℕ
fault_name BadHead = codes "BadHead"
fault_name BadHost = codes "BadHost"
fault_name BadFraming = codes "BadFraming"
fault_name UnknownCoding = codes "UnknownCoding"
fault_name HeadTooLarge = codes "HeadTooLarge"
fault_name BodyTooLarge = codes "BodyTooLarge"
fault_name BadExpect = codes "BadExpect"
fault_name BadTarget = codes "BadTarget"

-- The status of the response to a fault.
abbrev pub fault_status : WireFault → ℕ
fault_status BadHead = 400
fault_status BadHost = 400
fault_status BadFraming = 400
fault_status UnknownCoding = 501
fault_status HeadTooLarge = 431
fault_status BodyTooLarge = 413
fault_status BadExpect = 417
fault_status BadTarget = 400

-- The fault of a message whose body has this fault.
abbrev pub fault_of : BodyFault → WireFault
fault_of BadChunk = BadFraming
fault_of TooLarge = BodyTooLarge
fault_of TrailerTooLarge = HeadTooLarge

abbrev pub fault_number : WireFault → ℕ
fault_number BadHead = 1
fault_number BadHost = 2
fault_number BadFraming = 3
fault_number UnknownCoding = 4
fault_number HeadTooLarge = 5
fault_number BodyTooLarge = 6
fault_number BadExpect = 7
fault_number BadTarget = 8
