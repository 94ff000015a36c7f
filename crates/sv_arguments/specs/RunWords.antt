-- The names of the forms of the lines of an access log.
use Rattle.std.specs.Prelude.{◌≡◌, ℕ, List, codes}
use Rattle.sv_arguments.specs.declared.run_options.AccessLogFormat.{AccessLogFormat}
use Rattle.sv_arguments.specs.declared.run_options.AccessLogFormat.TheVariants.{Combined, Json}

abbrev pub access_log_format_name : AccessLogFormat → List ℕ
access_log_format_name Combined = codes "combined"
access_log_format_name Json = codes "json"

-- the word is the name of the form
abbrev pub IsAccessLogFormat : List ℕ → AccessLogFormat → Type 0
IsAccessLogFormat word format = word ≡ access_log_format_name format
