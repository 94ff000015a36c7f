-- The settings of a server, from the options of the command `run`.
use Rattle.std.specs.Prelude.{ℕ, ◌*◌, Bool, true, false, Option, None, Some}
use Rattle.std.specs.Option.{unwrap_or}
use Rattle.sv_connection.specs.declared.limits.Limits.{Limits}
use Rattle.sv_arguments.specs.declared.run_options.RunOptions.{RunOptions}
use Rattle.sv_listening.specs.declared.seed.Seeding.{Seeding}
use Rattle.sv_listening.specs.declared.seed.Seeding.TheVariants.{Configured, Fresh}

abbrev pub bytes_or : Option ℕ → ℕ → ℕ
bytes_or (Some mebibytes) usual = mebibytes * 1048576
bytes_or None usual = usual

-- the limits of the options; the defaults are 1,024 connections, 60 idle seconds and 64 mebibytes
abbrev pub limits_of : RunOptions → Limits
limits_of options = record {
  connections = unwrap_or options.connections 1024;
  idle_seconds = unwrap_or options.idle_seconds 60;
  held_bytes = bytes_or options.held_mebibytes 67108864;
}

-- the seeding of the random words
abbrev pub seeding_by : Bool → Seeding
seeding_by true = Configured
seeding_by false = Fresh
