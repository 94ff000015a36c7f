-- Jakarta Servlet 6.0 section 12.2: the URL patterns of a mapping or a collection.
use Rattle.std.specs.Prelude.{ℕ, List, if◌then◌else◌, Ok}
use Rattle.sv_mapping.specs.Pattern.{is_pattern}
use Rattle.sv_descriptor.specs.Fault.{Located, refuse}
use Rattle.sv_descriptor.specs.Value.{Reader}
use Rattle.sv_descriptor.specs.ListOf.{list_of_texts}
use Rattle.sv_descriptor.specs.declared.fault.FaultCode.TheVariants.{BadPattern}

abbrev pub pattern : List ℕ → List ℕ → Located (List ℕ)
pattern key text = if is_pattern text then Ok text else refuse BadPattern key

abbrev pub patterns : ℕ → ℕ → Reader (List (List ℕ))
patterns least most = list_of_texts least most pattern
