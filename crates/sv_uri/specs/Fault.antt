-- The faults of a request target and their order: Jakarta Servlet 6.0, section 3.5.2 (the sequences to refuse).
use Rattle.std.specs.Prelude.{ℕ, List, Option, Some, None, codes}
use Rattle.sv_uri.specs.declared.fault.PathFault.{PathFault}
use Rattle.sv_uri.specs.declared.fault.PathFault.TheVariants.{Fragment, NoSlash, BadEscape, EncodedSlash, Backslash, Control, NotUtf8, DotSegment, EmptyParameter, Climbs}
use Rattle.sv_uri.specs.declared.fault.CanonFault.{CanonFault}
use Rattle.sv_uri.specs.declared.fault.CanonFault.TheVariants.{Path, NoMemory}

-- The fault of the target, or none if memory ran out.
abbrev pub path_fault : CanonFault → Option PathFault
path_fault (Path fault) = Some fault
path_fault NoMemory = None

-- The printed name of a fault.
abbrev pub fault_name : PathFault → List ℕ
fault_name Fragment = codes "Fragment"
fault_name NoSlash = codes "NoSlash"
fault_name BadEscape = codes "BadEscape"
fault_name EncodedSlash = codes "EncodedSlash"
fault_name Backslash = codes "Backslash"
fault_name Control = codes "Control"
fault_name NotUtf8 = codes "NotUtf8"
fault_name DotSegment = codes "DotSegment"
fault_name EmptyParameter = codes "EmptyParameter"
fault_name Climbs = codes "Climbs"

-- The printed text of a refusal.
abbrev pub refusal_text : CanonFault → List ℕ
refusal_text (Path fault) = fault_name fault
refusal_text NoMemory = codes "no memory"

abbrev pub fault_number : PathFault → ℕ
fault_number Fragment = 1
fault_number NoSlash = 2
fault_number BadEscape = 3
fault_number EncodedSlash = 4
fault_number Backslash = 5
fault_number Control = 6
fault_number NotUtf8 = 7
fault_number DotSegment = 8
fault_number EmptyParameter = 9
fault_number Climbs = 10
