-- The lines of an access log.
use Rattle.std.specs.Prelude.{ℕ, List}
use Rattle.sv_access_log.specs.Combined.{combined_line}
use Rattle.sv_access_log.specs.Json.{json_line}
use Rattle.sv_access_log.specs.declared.circumstances.Circumstances.{Circumstances}
use Rattle.sv_access_log.specs.declared.circumstances.LogFormat.{LogFormat}
use Rattle.sv_access_log.specs.declared.circumstances.LogFormat.TheVariants.{Combined, Json}
use Rattle.sv_run.specs.declared.access.Access.{Access}

abbrev pub access_line : LogFormat → Access → Circumstances → List ℕ
access_line Combined access around = combined_line access around
access_line Json access around = json_line access around
