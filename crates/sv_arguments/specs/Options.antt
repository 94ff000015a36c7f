-- Which options the arguments of a command may have.
use Rattle.std.specs.Prelude.{◌≡◌, ℕ, ◌≤◌, true, List, [], ◌∷◌, length, All, Some, None}
use Rattle.sv_audit_command.specs.Kinds.{AreKinds}
use Rattle.sv_audit_command.specs.declared.access_options.Format as report
use Rattle.sv_arguments.specs.Settings.{Setting, Keyed, given_rival, is_given, needed, set_of, values}
use Rattle.sv_arguments.specs.Values.{IsAddress, IsCount, IsDescriptor}
use Rattle.sv_arguments.specs.AuditWords.{IsFormat, IsUnfit}
use Rattle.sv_arguments.specs.RunWords.{IsAccessLogFormat}
use Rattle.sv_arguments.specs.declared.key.Key.{Key}
use Rattle.sv_arguments.specs.declared.key.Key.TheVariants.{AccessLogFormat, SessionsEvery, EndAllSessions, Listen, SameSeed, Connections, IdleSeconds, HeldMebibytes, SignalDescriptor, Secure, Format, FailOn, UnknownFiles, Diff}
use Rattle.sv_arguments.specs.declared.option_set.OptionSet.{OptionSet}
use Rattle.sv_arguments.specs.declared.run_options.AccessLogFormat as log
use Rattle.std.specs.declared.net.socket_addr.SocketAddr.{SocketAddr}

-- the word is a value of the option
abbrev pub IsValue : Key → List ℕ → Type 0
IsValue AccessLogFormat word = (format : log.AccessLogFormat) × IsAccessLogFormat word format
IsValue Listen word = (address : SocketAddr) × IsAddress word address
IsValue SessionsEvery word = (count : ℕ) × IsCount 86400 word count
IsValue EndAllSessions word = word ≡ []
IsValue SameSeed word = word ≡ []
IsValue Connections word = (count : ℕ) × IsCount 1024 word count
IsValue IdleSeconds word = (count : ℕ) × IsCount 86400 word count
IsValue HeldMebibytes word = (count : ℕ) × IsCount 1048576 word count
IsValue SignalDescriptor word = (number : ℕ) × IsDescriptor word number
IsValue Secure word = word ≡ []
IsValue Format word = (format : report.Format) × IsFormat word format
IsValue FailOn word = AreKinds word
IsValue UnknownFiles word = word ≡ []
IsValue other word = Unit {0}

-- an option of the command with a value of it
abbrev pub IsProper : OptionSet → Setting → Type 0
IsProper set (Keyed key word) = (set_of key ≡ set) × IsValue key word

-- options of the command with values of them, each at most once, and no two that exclude each other
abbrev pub AreProper : OptionSet → List Setting → Type 0
AreProper set settings =
    All (IsProper set) settings
    × ((key : Key) → length (values key settings) ≤ 1)
    × ((key : Key) → is_given settings key ≡ true → given_rival settings key ≡ None)

-- another server is among these settings, and this form, which a report on differences does not have
abbrev pub HasUnfit : List Setting → report.Format → Type 0
HasUnfit settings form =
    (word : List ℕ) × (values Format settings ≡ word ∷ []) × IsUnfit word form × (is_given settings Diff ≡ true)

-- proper options, each with the option that it needs, and no form that another server excludes
abbrev pub AreComplete : OptionSet → List Setting → Type 0
AreComplete set settings =
    AreProper set settings
    × ((key other : Key) → needed key ≡ Some other → is_given settings key ≡ true → is_given settings other ≡ true)
    × ((form : report.Format) → HasUnfit settings form → ⊥)
