-- A whole document.
use Rattle.std.specs.Prelude.{ℕ, List, [], Option, Some, None, Ok}
use Rattle.toml.specs.Data.{Members}
use Rattle.toml.specs.Parse.{parse_document}
use Rattle.sv_text.specs.Steps.{◌>>=◌}
use Rattle.sv_descriptor.specs.Fault.{Located, refuse}
use Rattle.sv_descriptor.specs.declared.fault.FaultCode.TheVariants.{NotToml}

abbrev pub parsed : Option Members → Located Members
parsed None = refuse NotToml []
parsed (Some table) = Ok table

-- The result of reading a text: it is parsed as TOML, and then its table is read.
abbrev pub document : {A : Type 0} → (Members → Located A) → List ℕ → Located A
document reads text = parsed (parse_document text) >>= reads
