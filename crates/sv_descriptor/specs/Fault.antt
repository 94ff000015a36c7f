-- The first fault of a configuration file, and its place.
use Rattle.std.specs.Prelude.{ℕ, Bool, if◌then◌else◌, List, [], ◌∷◌, ◌++◌, codes, Option, Some, None, Result, Ok, Err}
use Rattle.sv_descriptor.specs.declared.fault.DescriptorFault.{DescriptorFault}
use Rattle.sv_descriptor.specs.declared.fault.FaultCode.{FaultCode}
use Rattle.sv_descriptor.specs.declared.fault.FaultCode.TheVariants.{NotToml, UnknownKey, MissingKey, WrongType, BadPattern, DuplicatePattern, UnknownServlet, UnknownFilter, BothMethodLists, ReservedRole, BadTimeout, BadValue, DuplicateName, TooMany}
use Rattle.sv_descriptor.specs.declared.fault.LocatedFault.{LocatedFault}
use Rattle.sv_descriptor.specs.declared.fault.LocatedReadFault.{LocatedReadFault}
use Rattle.sv_descriptor.specs.declared.fault.LocatedReadFault.TheVariants as located
use Rattle.sv_descriptor.specs.declared.fault.ReadFault.{ReadFault}
use Rattle.sv_descriptor.specs.declared.fault.ReadFault.TheVariants.{Fault, NoMemory}
use Rattle.sv_descriptor.specs.declared.fault.ValueStep.{ValueStep}
use Rattle.sv_descriptor.specs.declared.fault.ValueStep.TheVariants.{Key, Item}

-- The fault of the file; none if memory ran out.
abbrev pub fault : ReadFault → Option DescriptorFault
fault (Fault f) = Some f
fault NoMemory = None

-- The same with the place of the fault.
abbrev pub located_fault : LocatedReadFault → Option LocatedFault
located_fault (located.Fault f) = Some f
located_fault located.NoMemory = None

-- The reason without the place.
abbrev pub plain : LocatedReadFault → ReadFault
plain (located.Fault f) = Fault f.fault
plain located.NoMemory = NoMemory

-- The value that is read, or the first fault.
abbrev pub Reads : Type 0 → Type 0
Reads A = Result A DescriptorFault

-- The value that is read, or the first fault with its place.
abbrev pub Located : Type 0 → Type 0
Located A = Result A LocatedFault

abbrev pub without_place : {A : Type 0} → Located A → Reads A
without_place (Ok a) = Ok a
without_place (Err f) = Err f.fault

-- A value is read one step further down, so a fault in it has one more step in front.
abbrev pub within : {A : Type 0} → ValueStep → Located A → Located A
within step (Ok a) = Ok a
within step (Err f) = Err (record { fault = f.fault; steps = step ∷ f.steps })

-- A fault at the end of these steps.
abbrev pub refuse_at : {A : Type 0} → FaultCode → List ℕ → List ValueStep → Located A
refuse_at code key steps = Err (record { fault = record { code = code; key = key }; steps = steps })

-- A fault at the table or value that is being read.
abbrev pub refuse : {A : Type 0} → FaultCode → List ℕ → Located A
refuse code key = refuse_at code key []

-- A condition on the values read, and the fault if it does not hold.
abbrev pub check_at : Bool → FaultCode → List ℕ → List ValueStep → Located (Unit {0})
check_at holds code key steps = if holds then Ok tt else refuse_at code key steps

abbrev pub check : Bool → FaultCode → List ℕ → Located (Unit {0})
check holds code key = check_at holds code key []

-- The steps to a key of an item of a list in the file's table.
abbrev pub item_key : List ℕ → ℕ → List ℕ → List ValueStep
item_key list i key = Key list ∷ Item i ∷ Key key ∷ []

abbrev pub number : FaultCode → ℕ
number NotToml = 1
number UnknownKey = 2
number MissingKey = 3
number WrongType = 4
number BadPattern = 5
number DuplicatePattern = 6
number UnknownServlet = 7
number UnknownFilter = 8
number BothMethodLists = 9
number ReservedRole = 10
number BadTimeout = 11
number BadValue = 12
number DuplicateName = 13
number TooMany = 14

-- The printed name of a code.
abbrev pub code_name : FaultCode → List ℕ
code_name NotToml = codes "NotToml"
code_name UnknownKey = codes "UnknownKey"
code_name MissingKey = codes "MissingKey"
code_name WrongType = codes "WrongType"
code_name BadPattern = codes "BadPattern"
code_name DuplicatePattern = codes "DuplicatePattern"
code_name UnknownServlet = codes "UnknownServlet"
code_name UnknownFilter = codes "UnknownFilter"
code_name BothMethodLists = codes "BothMethodLists"
code_name ReservedRole = codes "ReservedRole"
code_name BadTimeout = codes "BadTimeout"
code_name BadValue = codes "BadValue"
code_name DuplicateName = codes "DuplicateName"
code_name TooMany = codes "TooMany"

-- The code's name, a space and the key.
abbrev pub descriptor_fault_text : DescriptorFault → List ℕ
descriptor_fault_text f = code_name f.code ++ codes " " ++ f.key

-- The printed text of a fault.
abbrev pub read_fault_text : ReadFault → List ℕ
read_fault_text (Fault f) = descriptor_fault_text f
read_fault_text NoMemory = codes "no memory"
