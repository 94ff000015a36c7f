-- The meaning of the arguments of the command `run`.
use Rattle.std.specs.Prelude.{◌≡◌, ℕ, List, ◌∷◌}
use Rattle.sv_arguments.specs.Options.{AreComplete}
use Rattle.sv_arguments.specs.RunWords.{IsAccessLogFormat}
use Rattle.sv_arguments.specs.Settings.{Setting, values, words_of}
use Rattle.sv_arguments.specs.Values.{IsAddress, IsCount, IsDescriptor, IsGiven, IsName, Says, SaysOr}
use Rattle.sv_arguments.specs.declared.key.Key.TheVariants.{AccessLog, AccessLogFormat, Connections, Control, EndAllSessions, HeldMebibytes, IdleSeconds, Journal, Listen, SameSeed, Sessions, SessionsEvery, SignalDescriptor}
use Rattle.sv_arguments.specs.declared.option_set.OptionSet.TheVariants.{Run}
use Rattle.sv_arguments.specs.declared.run_options.AccessLogFormat.TheVariants.{Combined}
use Rattle.sv_arguments.specs.declared.run_options.RunOptions.{RunOptions}

-- the settings give these options; the lines of the access log are combined if no form is named
abbrev pub GiveRun : List Setting → RunOptions → Type 0
GiveRun settings options =
    Says IsName (values Control settings) options.control
    × Says IsName (values Journal settings) options.journal
    × Says IsName (values AccessLog settings) options.access_log
    × SaysOr Combined IsAccessLogFormat (values AccessLogFormat settings) options.access_log_format
    × Says IsName (values Sessions settings) options.sessions
    × Says (IsCount 86400) (values SessionsEvery settings) options.sessions_every
    × IsGiven (values EndAllSessions settings) options.end_all_sessions
    × Says IsAddress (values Listen settings) options.listen
    × IsGiven (values SameSeed settings) options.same_seed
    × Says (IsCount 1024) (values Connections settings) options.connections
    × Says (IsCount 86400) (values IdleSeconds settings) options.idle_seconds
    × Says (IsCount 1048576) (values HeldMebibytes settings) options.held_mebibytes
    × Says IsDescriptor (values SignalDescriptor settings) options.signal_descriptor

-- the arguments are the name of the server file, then the words of settings in any order, which give these options
abbrev pub IsAsked : List (List ℕ) → RunOptions → Type 0
IsAsked arguments options =
    (settings : List Setting) × (arguments ≡ options.config.now ∷ words_of settings) × AreComplete Run settings × GiveRun settings options
