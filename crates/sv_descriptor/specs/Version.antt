-- The version of the descriptor's format.
use Rattle.std.specs.Prelude.{ℕ, ◌==◌, codes, if◌then◌else◌, Option, None, Some, Ok}
use Rattle.toml.specs.Data.{Members}
use Rattle.sv_text.specs.Steps.{◌>>=◌}
use Rattle.sv_descriptor.specs.Fault.{Located}
use Rattle.sv_descriptor.specs.Table.{optional}
use Rattle.sv_descriptor.specs.Value.{number_between, whole_of}
use Rattle.sv_descriptor.specs.declared.limits.TheConstants.{MAX_SESSIONS_OF_VERSION_1, MAX_SESSIONS_OF_VERSION_2}
use Rattle.sv_descriptor.specs.declared.version.Version.{Version}
use Rattle.sv_descriptor.specs.declared.version.Version.TheVariants.{One, Two}

-- The version of a number. The default is version 1.
abbrev pub numbered : Option ℕ → Version
numbered None = One
numbered (Some number) = if number == 2 then Two else One

-- The version of a table.
abbrev pub version : Members → Located Version
version table = do
  number ← optional (whole_of (number_between 1 2)) (codes "version") table
  Ok (numbered number)

-- The maximum number of live sessions.
abbrev pub max_sessions : Version → ℕ
max_sessions One = MAX_SESSIONS_OF_VERSION_1
max_sessions Two = MAX_SESSIONS_OF_VERSION_2
