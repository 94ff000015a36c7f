-- Elements that may occur many times in a deployment descriptor (Jakarta Servlet 6.0 section 14.4).
use Rattle.std.specs.Prelude.{List}
use Rattle.toml.specs.Data.{Members}
use Rattle.sv_descriptor.specs.Fault.{Located}
use Rattle.sv_descriptor.specs.ListOf.{list_of_tables}
use Rattle.sv_descriptor.specs.Value.{Reader}
use Rattle.sv_descriptor.specs.declared.limits.TheConstants.{MAX_LIST_ITEMS}

-- A list of tables.
abbrev pub tables : {A : Type 0} → (Members → Located A) → Reader (List A)
tables reads = list_of_tables 0 MAX_LIST_ITEMS reads
