-- The options of the commands as words.
use Rattle.std.specs.Prelude.{◌≡◌, ℕ, Bool, true, false, ◌&&◌, not, List, [], ◌∷◌, codes, map, Option, Some, None}
use Rattle.std.specs.List.{find, flat_map}
use Rattle.std.specs.Str.{bytes_eq}
use Rattle.sv_arguments.specs.declared.key.Key.{Key}
use Rattle.sv_arguments.specs.declared.key.Key.TheVariants.{Control, Journal, AccessLog, AccessLogFormat, Sessions, SessionsEvery, EndAllSessions, Listen, SameSeed, Connections, IdleSeconds, HeldMebibytes, SignalDescriptor, Secure, Format, As, Role, FailOn, Accept, Lines, UnknownFiles, Path, Method, Diff}
use Rattle.sv_arguments.specs.declared.option_set.OptionSet.{OptionSet}
use Rattle.sv_arguments.specs.declared.option_set.OptionSet.TheVariants.{Run, Audit}

-- an option and the word after it; that of an option which takes none is empty
pub data Setting : Type 0 where
  Keyed : Key → List ℕ → Setting

abbrev pub key_word : Key → List ℕ
key_word Control = codes "--control"
key_word Journal = codes "--journal"
key_word AccessLog = codes "--access-log"
key_word AccessLogFormat = codes "--access-log-format"
key_word Sessions = codes "--sessions"
key_word SessionsEvery = codes "--sessions-every"
key_word EndAllSessions = codes "--end-all-sessions"
key_word Listen = codes "--listen"
key_word SameSeed = codes "--same-seed"
key_word Connections = codes "--connections"
key_word IdleSeconds = codes "--idle-seconds"
key_word HeldMebibytes = codes "--held-mebibytes"
key_word SignalDescriptor = codes "--signal-descriptor"
key_word Secure = codes "--secure"
key_word Format = codes "--format"
key_word As = codes "--as"
key_word Role = codes "--role"
key_word FailOn = codes "--fail-on"
key_word Accept = codes "--accept"
key_word Lines = codes "--lines"
key_word UnknownFiles = codes "--unknown-files"
key_word Path = codes "--path"
key_word Method = codes "--method"
key_word Diff = codes "--diff"

-- the value of an option, as messages call it
abbrev pub value_name : Key → List ℕ
value_name Control = codes "SOCKET"
value_name Journal = codes "FILE"
value_name AccessLog = codes "FILE"
value_name AccessLogFormat = codes "combined or json"
value_name Sessions = codes "FOLDER"
value_name SessionsEvery = codes "a number from 1 to 86400"
value_name EndAllSessions = codes "nothing"
value_name Listen = codes "an address and a port, as 127.0.0.1:8080"
value_name SameSeed = codes "nothing"
value_name Connections = codes "a number from 1 to 1024"
value_name IdleSeconds = codes "a number from 1 to 86400"
value_name HeldMebibytes = codes "a number from 1 to 1048576"
value_name SignalDescriptor = codes "a number from 3 to 1048575"
value_name Secure = codes "nothing"
value_name Format = codes "text, json, html or keys"
value_name As = codes "USER"
value_name Role = codes "ROLE"
value_name FailOn = codes "any, or kinds that \"sv help audit\" lists, joined by commas"
value_name Accept = codes "FILE"
value_name Lines = codes "FILE"
value_name UnknownFiles = codes "nothing"
value_name Path = codes "TARGET"
value_name Method = codes "METHOD"
value_name Diff = codes "a server file"

-- the options of a command, in the order of its help
abbrev pub option_keys : OptionSet → List Key
option_keys Run =
    Control ∷ Journal ∷ AccessLog ∷ AccessLogFormat ∷ Sessions ∷ SessionsEvery ∷ EndAllSessions ∷ Listen ∷ SameSeed ∷ Connections
    ∷ IdleSeconds ∷ HeldMebibytes ∷ SignalDescriptor ∷ []
option_keys Audit = Secure ∷ Format ∷ As ∷ Role ∷ FailOn ∷ Accept ∷ Lines ∷ UnknownFiles ∷ Path ∷ Method ∷ Diff ∷ []

abbrev pub option_words : OptionSet → List (List ℕ)
option_words set = map key_word (option_keys set)

-- the command of an option
abbrev pub set_of : Key → OptionSet
set_of Secure = Audit
set_of Format = Audit
set_of As = Audit
set_of Role = Audit
set_of FailOn = Audit
set_of Accept = Audit
set_of Lines = Audit
set_of UnknownFiles = Audit
set_of Path = Audit
set_of Method = Audit
set_of Diff = Audit
set_of other = Run

-- the command has this option, and its word is this
abbrev pub IsKey : OptionSet → List ℕ → Key → Type 0
IsKey set word key = (set_of key ≡ set) × (word ≡ key_word key)

-- a word follows the option's own
abbrev pub takes_word : Key → Bool
takes_word EndAllSessions = false
takes_word SameSeed = false
takes_word Secure = false
takes_word UnknownFiles = false
takes_word other = true

-- the options that cannot be given with this one, in the order of the help
abbrev pub rivals : Key → List Key
rivals Format = Path ∷ []
rivals As = Role ∷ Diff ∷ []
rivals Role = As ∷ Diff ∷ []
rivals FailOn = Path ∷ []
rivals Accept = Path ∷ Diff ∷ []
rivals Lines = Diff ∷ []
rivals UnknownFiles = Diff ∷ []
rivals Path = Format ∷ FailOn ∷ Accept ∷ Diff ∷ []
rivals Method = Diff ∷ []
rivals Diff = As ∷ Role ∷ Accept ∷ Lines ∷ UnknownFiles ∷ Path ∷ Method ∷ []
rivals other = []

-- the option that must be given with this one
abbrev pub needed : Key → Option Key
needed AccessLogFormat = Some AccessLog
needed SessionsEvery = Some Sessions
needed EndAllSessions = Some Sessions
needed Method = Some Path
needed other = None

-- the word after the option's own, if it takes one
abbrev pub own_words : Bool → List ℕ → List (List ℕ)
own_words true word = word ∷ []
own_words false word = []

abbrev pub setting_words : Setting → List (List ℕ)
setting_words (Keyed key word) = key_word key ∷ own_words (takes_word key) word

abbrev pub words_of : List Setting → List (List ℕ)
words_of settings = flat_map setting_words settings

-- the word of a setting, if it is of that option
abbrev pub value_in : Key → Setting → List (List ℕ)
value_in key (Keyed own word) = own_words (bytes_eq (key_word key) (key_word own)) word

-- the words after an option
abbrev pub values : Key → List Setting → List (List ℕ)
values key settings = flat_map (value_in key) settings

-- there is a word
abbrev pub has_word : List (List ℕ) → Bool
has_word [] = false
has_word (word ∷ words) = true

-- the option is among these settings
abbrev pub is_given : List Setting → Key → Bool
is_given settings key = has_word (values key settings)

-- the first of the options that cannot be given with this one and that is among these settings
abbrev pub given_rival : List Setting → Key → Option Key
given_rival settings key = find (is_given settings) (rivals key)

-- an option is needed, and it is not among these settings
abbrev pub is_missing : List Setting → Option Key → Bool
is_missing settings None = false
is_missing settings (Some key) = not (is_given settings key)

-- the option is among these settings, and one that it needs is not
abbrev pub is_lone : List Setting → Key → Bool
is_lone settings key = is_missing settings (needed key) && is_given settings key

-- the first such option of a command, in the order of its help
abbrev pub first_lone : OptionSet → List Setting → Option Key
first_lone set settings = find (is_lone settings) (option_keys set)
