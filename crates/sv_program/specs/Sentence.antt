-- The sentence about the key of a fault in a configuration file.
use Rattle.std.specs.Prelude.{ℕ, List, ◌++◌, codes}
use Rattle.sv_descriptor.specs.declared.fault.FaultCode.{FaultCode}
use Rattle.sv_descriptor.specs.declared.fault.FaultCode.TheVariants.{NotToml, UnknownKey, MissingKey, WrongType, BadPattern, DuplicatePattern, UnknownServlet, UnknownFilter, BothMethodLists, ReservedRole, BadTimeout, BadValue, DuplicateName, TooMany}
use Rattle.sv_descriptor.specs.declared.fault.LocatedFault.{LocatedFault}
use Rattle.sv_program.specs.Keys.{taken}
use Rattle.sv_program.specs.Shown.{printed_key}

-- the words before the key
abbrev pub front : FaultCode → List ℕ
front NotToml = codes "the text is no TOML"
front UnknownKey = codes "the key `"
front MissingKey = codes "the key `"
front WrongType = codes "the value of `"
front BadPattern = codes "the value of `"
front DuplicatePattern = codes "a pattern at `"
front UnknownServlet = codes "no servlet is declared by the name at `"
front UnknownFilter = codes "no filter is declared by the name at `"
front BothMethodLists = codes "methods are listed beside `"
front ReservedRole = codes "a role at `"
front BadTimeout = codes "the value of `"
front BadValue = codes "the value of `"
front DuplicateName = codes "the name at `"
front TooMany = codes "the value of `"

-- the words after the key
abbrev pub back : FaultCode → List ℕ
back NotToml = codes ""
back UnknownKey = codes "` is not known here"
back MissingKey = codes "` is missing"
back WrongType = codes "` is not "
back BadPattern = codes "` is not a URL pattern"
back DuplicatePattern = codes "` was mapped before"
back UnknownServlet = codes "`"
back UnknownFilter = codes "`"
back BothMethodLists = codes "`"
back ReservedRole = codes "` is `*` or `**`, which have a meaning of their own"
back BadTimeout = codes "` is not "
back BadValue = codes "` is not "
back DuplicateName = codes "` was given before"
back TooMany = codes "` is not "

-- the sentence, which ends with what the key takes if its value is none of that
abbrev pub sentence : LocatedFault → List ℕ
sentence found = front found.fault.code ++ printed_key found.fault.key ++ back found.fault.code ++ taken found
