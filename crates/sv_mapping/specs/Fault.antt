-- The results of parsing a URL pattern (Jakarta Servlet 6.0, section 12.2).
use Rattle.std.specs.Prelude.{ℕ, List, codes, if◌then◌else◌, Option, Some, None, Result, Ok, Err}
use Rattle.sv_mapping.specs.Pattern.{is_pattern}
use Rattle.sv_mapping.specs.declared.fault.PatternFault.{PatternFault}
use Rattle.sv_mapping.specs.declared.fault.PatternFault.TheVariants.{BadPattern, NoMemory}

-- The fault of the text, or none if memory ran out.
abbrev pub text_fault : PatternFault → Option PatternFault
text_fault BadPattern = Some BadPattern
text_fault NoMemory = None

-- A pattern is the text that was parsed.
abbrev pub pattern_read : List ℕ → Result (List ℕ) PatternFault
pattern_read text = if is_pattern text then Ok text else Err BadPattern

-- The printed text of a fault.
abbrev pub pattern_fault_text : PatternFault → List ℕ
pattern_fault_text BadPattern = codes "BadPattern"
pattern_fault_text NoMemory = codes "no memory"
